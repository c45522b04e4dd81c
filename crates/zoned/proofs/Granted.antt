-- Who may have zones, one after the other
use Rattle.std.proofs.Common.{◌≡◌, List, [], ◌∷◌, ◌++◌, refl, sym, ap, ◌∙◌, append_assoc, append-nil}
use Rattle.zone_proto.specs.Names.{Name}
use Rattle.zone_server.specs.declared.transfer_policy.TransferPolicy.{TransferPolicy}
use Rattle.zone_database.specs.declared.zone.Zone.{Zone}
use Rattle.held_transfers.specs.declared.access.Grant.{Grant}
use Rattle.zoned.specs.Keyed.{grants_for, grants_of}

module _ (names : List Name) (zones others : List Zone) (policies behind : List TransferPolicy) (now all : List Grant) where
  -- the grants of one zone more
  pub granted_on : (z : Zone) (p : TransferPolicy) (after : List Grant) → zones ≡ z ∷ others → policies ≡ p ∷ behind → now ++ grants_of names zones policies ≡ all
      → after ≡ now ++ grants_for names z.origin p → after ++ grants_of names others behind ≡ all
  granted_on z p after is_zone is_policy sum put =
      let first : grants_of names zones policies ≡ grants_for names z.origin p ++ grants_of names others behind =
      (λ i. grants_of names (is_zone i) (is_policy i)) in
      ap (λ gs. gs ++ grants_of names others behind) put
      ∙ append_assoc now (grants_for names z.origin p) (grants_of names others behind)
      ∙ ap (λ gs. now ++ gs) (sym first)
      ∙ sum

-- no zone is left, or no policy
module _ (names : List Name) (policies : List TransferPolicy) (now all : List Grant) where
  pub no_zone_left : (zones : List Zone) → zones ≡ [] → now ++ grants_of names zones policies ≡ all → now ≡ all
  no_zone_left zones none sum = sym (append-nil now) ∙ ap (λ (zs : List Zone). now ++ grants_of names zs policies) (sym none) ∙ sum

  pub no_policy_left : (zones : List Zone) → policies ≡ [] → now ++ grants_of names zones policies ≡ all → now ≡ all
  no_policy_left zones none sum = sym (append-nil now) ∙ ap (λ gs. now ++ gs) (sym (nothing zones)) ∙ ap (λ (ps : List TransferPolicy). now ++ grants_of names zones ps) (sym none) ∙ sum
    where
      nothing : (zs : List Zone) → grants_of names zs [] ≡ []
      nothing [] = refl
      nothing (z ∷ zs) = refl
