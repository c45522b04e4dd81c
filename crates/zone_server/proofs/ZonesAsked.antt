-- The zone of an origin and its policy, by where it stands in a list
use Rattle.std.proofs.Common.{◌≡◌, ℕ, suc, map, get_or, Bool, true, false, cond, List, [], ◌∷◌, refl, sym, ap, ◌∙◌}
use Rattle.std.specs.Prelude.{Option, Some, None, option_map, unwrap_or}
use Rattle.zone_proto.specs.Names.{Name, name_eq}
use Rattle.zone_proto.specs.declared.rdata.signing.RRSIG.{RRSIG}
use Rattle.zone_proto.specs.Signing.{SignedPart}
use Rattle.zone_server.specs.declared.transfer_policy.TransferPolicy.{TransferPolicy}
use Rattle.zone_server.specs.declared.transfer_policy.TransferPolicy.TheVariants.{Deny}
use Rattle.zone_response.specs.Queries.{Zone, zone_of}
use Rattle.zone_response.specs.declared.question.ServedZone.{ServedZone}
use Rattle.zone_server.specs.ListedZones.{origins, place_of}
use Rattle.zone_server.specs.Transfers.{zone_at}

-- ---- numbers that may be there, each one more

pub none_more : (o : Option ℕ) → option_map suc o ≡ None → o ≡ None
none_more None h = refl
none_more (Some i) h = absurd cc

-- it is one more than another
pub record IsMore (o : Option ℕ) (i : ℕ) : Type 0 where
  pub less : ℕ
  pub there : o ≡ Some less
  pub more : suc less ≡ i

pub some_more : (o : Option ℕ) (i : ℕ) → option_map suc o ≡ Some i → IsMore o i
some_more None i h = absurd cc
some_more (Some j) i h = record { less = j; there = refl; more = ap (λ x. unwrap_or x 0) h }

-- ---- the zone of an origin

module _ {S H : Type 0} (signature_of : S → SignedPart → ℕ → ℕ → Option RRSIG) (digest_of : H → ℕ → List ℕ → Name → ℕ → Option (List ℕ)) (x : Name) where
  abbrev kept : ServedZone S H → Zone
  kept = zone_of signature_of digest_of

  pub at_no_place : (zs : List (ServedZone S H)) (ps : List TransferPolicy) → place_of (origins zs) x ≡ None → zone_at (map kept zs) ps x ≡ None
  at_no_place [] ps h = refl
  at_no_place (z ∷ zs) ps h = by (name_eq z.origin.now x) refl h ps (λ qs k. at_no_place zs qs k)
    where
      by : (b : Bool) → name_eq z.origin.now x ≡ b → cond b (Some 0) (option_map suc (place_of (origins zs) x)) ≡ None
          → (ps : List TransferPolicy) → ((qs : List TransferPolicy) → place_of (origins zs) x ≡ None → zone_at (map kept zs) qs x ≡ None)
          → zone_at (kept z ∷ map kept zs) ps x ≡ None
      by true e h ps rest = absurd cc
      by false e h [] rest = ap (λ b. cond b (Some (kept z, Deny)) (zone_at (map kept zs) [] x)) e ∙ rest [] (none_more (place_of (origins zs) x) h)
      by false e h (p ∷ qs) rest = ap (λ b. cond b (Some (kept z, p)) (zone_at (map kept zs) qs x)) e ∙ rest qs (none_more (place_of (origins zs) x) h)

  pub at_place : (zs : List (ServedZone S H)) (ps : List TransferPolicy) (i : ℕ) (z : ServedZone S H) → place_of (origins zs) x ≡ Some i → z ≡ get_or zs i z
      → zone_at (map kept zs) ps x ≡ Some (kept z, get_or ps i Deny)
  at_place [] ps i z h is = absurd cc
  at_place (y ∷ zs) ps i z h is = by (name_eq y.origin.now x) refl h ps (λ qs j k e. at_place zs qs j z k e)
    where
      here : (ps : List TransferPolicy) → i ≡ 0 → name_eq y.origin.now x ≡ true → zone_at (kept y ∷ map kept zs) ps x ≡ Some (kept z, get_or ps i Deny)
      here [] at e =
          ap (λ b. cond b (Some (kept y, Deny)) (zone_at (map kept zs) [] x)) e
          ∙ ap (λ (w : ServedZone S H). Some (kept w, Deny)) (sym (is ∙ ap (λ k. get_or (y ∷ zs) k z) at))
      here (p ∷ qs) at e =
          ap (λ b. cond b (Some (kept y, p)) (zone_at (map kept zs) qs x)) e
          ∙ ap (λ (w : ServedZone S H). Some (kept w, p)) (sym (is ∙ ap (λ k. get_or (y ∷ zs) k z) at))
          ∙ ap (λ k. Some (kept z, get_or (p ∷ qs) k Deny)) (sym at)

      later : (ps : List TransferPolicy) (m : IsMore (place_of (origins zs) x) i) → name_eq y.origin.now x ≡ false
          → ((qs : List TransferPolicy) (j : ℕ) → place_of (origins zs) x ≡ Some j → z ≡ get_or zs j z → zone_at (map kept zs) qs x ≡ Some (kept z, get_or qs j Deny))
          → zone_at (kept y ∷ map kept zs) ps x ≡ Some (kept z, get_or ps i Deny)
      later [] m e rest =
          ap (λ b. cond b (Some (kept y, Deny)) (zone_at (map kept zs) [] x)) e
          ∙ rest [] m.less m.there (is ∙ ap (λ k. get_or (y ∷ zs) k z) (sym m.more))
      later (p ∷ qs) m e rest =
          ap (λ b. cond b (Some (kept y, p)) (zone_at (map kept zs) qs x)) e
          ∙ rest qs m.less m.there (is ∙ ap (λ k. get_or (y ∷ zs) k z) (sym m.more))
          ∙ ap (λ k. Some (kept z, get_or (p ∷ qs) k Deny)) m.more

      by : (b : Bool) → name_eq y.origin.now x ≡ b → cond b (Some 0) (option_map suc (place_of (origins zs) x)) ≡ Some i
          → (ps : List TransferPolicy) → ((qs : List TransferPolicy) (j : ℕ) → place_of (origins zs) x ≡ Some j → z ≡ get_or zs j z → zone_at (map kept zs) qs x ≡ Some (kept z, get_or qs j Deny))
          → zone_at (kept y ∷ map kept zs) ps x ≡ Some (kept z, get_or ps i Deny)
      by true e h ps rest = here ps (sym (ap (λ o. unwrap_or o 0) h)) e
      by false e h ps rest = later ps (some_more (place_of (origins zs) x) i h) e rest
