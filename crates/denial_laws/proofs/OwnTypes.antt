-- What a name doesn't own, where nothing is found at it for a type
use Rattle.std.proofs.Common.{◌≡◌, ◌≢◌, ℕ, Bool, true, false, cond, [], ◌∷◌, drop, refl, sym, ap, ◌∙◌, true≢false, inl, inr, eqb-true}
use Rattle.std.specs.Prelude.{Option, Some, None, filter, is_some, unwrap_or, option_and_then, ◌==◌}
use Rattle.std.specs.Option.{option_or}
use Rattle.zone_proto.specs.Names.{Name}
use Rattle.zone_proto.specs.Sets.{RRset}
use Rattle.zone_proto.specs.Types.{NS, CNAME, SOA, DS}
use Rattle.zone_proto.proofs.Members.{In, In-filter, In-from_filter}
use Rattle.zone_proto.proofs.Ordering.Orders.{number_order, has_greatest}
use Rattle.zone_map.specs.Direct.{is_address, types_for, referral, exact, direct}
use Rattle.zone_map.specs.Walks.{referral_above}
use Rattle.zone_map.specs.Zones.{Sets, set_at, owns}
use Rattle.zone_map.proofs.Owned.{set_of}
use Rattle.zone_map.proofs.Walks.{own_cut, referral_split}
use Rattle.zone_denial.proofs.InOrder.{flipped}

pub neither : {X : Type 0} (o p : Option X) → option_or o p ≡ None → (o ≡ None) × (p ≡ None)
neither None p e = (refl, e)
neither (Some x) p e = absurd cc

pub differs : (t u : ℕ) → t ≢ u → (t == u) ≡ false
differs t u h = by (t == u) refl
  where
    by : (b : Bool) → (t == u) ≡ b → b ≡ false
    by true e = absurd (h (eqb-true t u e))
    by false e = refl

module _ (m : Sets) (y : Name) (t : ℕ) (nothing : direct m y t ≡ None) where
  not_owned : (u : ℕ) → In u (types_for t) → owns m y u ≡ false
  not_owned u i = by (owns m y u) refl
    where
      by : (b : Bool) → owns m y u ≡ b → b ≡ false
      by false e = refl
      by true k =
          let g = has_greatest (flipped number_order) (filter (owns m y) (types_for t)) u (In-filter (owns m y) u (types_for t) i k) in
          absurd
          (true≢false
          (sym (In-from_filter (owns m y) g.0 (types_for t) g.2.among).1
          ∙ ap is_some (sym (ap (option_and_then (set_at m y)) g.1) ∙ (neither (referral m y t) (exact m y t) nothing).1)))

  pub own_type : owns m y t ≡ false
  own_type = not_owned t (by (is_address t))
    where
      by : (b : Bool) → In t (cond b (t ∷ CNAME ∷ 65305 ∷ []) (t ∷ CNAME ∷ []))
      by true = inl refl
      by false = inl refl

  pub own_alias : owns m y CNAME ≡ false
  own_alias = not_owned CNAME (by (is_address t))
    where
      by : (b : Bool) → In CNAME (cond b (t ∷ CNAME ∷ 65305 ∷ []) (t ∷ CNAME ∷ []))
      by true = inr (inl refl)
      by false = inr (inl refl)

  -- NS is there only at an apex
  pub own_delegation : (y ≡ [] → ⊥) → (t == DS) ≡ false → owns m y NS ≡ true → owns m y SOA ≡ true
  own_delegation below d k = by (owns m y SOA) refl
    where
      by : (b : Bool) → owns m y SOA ≡ b → b ≡ true
      by true e = refl
      by false e =
          let s = set_of m y NS k in
          let cut = own_cut m y t s.0 below s.1 e ∙ ap (λ b. cond b None (Some (Some s.0))) d in
          absurd (no_set s.0 (sym (referral_split m y t ∙ ap (λ o. unwrap_or o (referral_above m (drop 1 y))) cut) ∙ (neither (referral m y t) (exact m y t) nothing).0))
        where
          no_set : (s : RRset) → Some s ≡ None → ⊥
          no_set s e = cc
