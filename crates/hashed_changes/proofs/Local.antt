-- Whether a zone is authoritative for a name, whether opt-out leaves it out, and which types its NSEC3 set lists, by what the name owns and by the zone cuts above it
use Rattle.std.proofs.Common.{◌≡◌, ℕ, Bool, true, false, not, ◌&&◌, ◌||◌, refl, sym, ◌∙◌, inl, inr, eqb-true}
use Rattle.std.specs.Prelude.{IsTrue, ◌==◌}
use Rattle.std.specs.Cmp.{both_ways}
use Rattle.zone_proto.specs.Names.{Name, is_above, is_at_or_above}
use Rattle.zone_proto.specs.Types.{NS, NSEC3}
use Rattle.zone_proto.proofs.Members.{In, In-Contains, Contains-In, In-from_any, any_from_In, and_left, and_right, not_true, or_right}
use Rattle.zone_proto.proofs.Ordering.Orders.{number_order}
use Rattle.zone_map.specs.Zones.{Sets, owns, owners, types_at}
use Rattle.zone_map.proofs.Owned.{owner_in, owner_owned, type_in, type_owned}
use Rattle.zone_denial.specs.Authority.{is_authoritative, is_below_cut, owns_besides}
use Rattle.zone_denial.specs.Nsec3Circle.{nsec3_types, IsNsec3Type}
use Rattle.zone_denial.specs.Nsec3Names.{is_unsigned_delegation}
use Rattle.zone_denial.proofs.InOrder.{ascending_same}
use Rattle.zone_denial.proofs.Hashed.AllPassing.{all_from_In, In-passes}
use Rattle.zone_denial.proofs.Hashed.Nsec3TypeLaws.{types_are_exact, types_ascend}
use Rattle.zone_denial.proofs.Names.AuthoritativeNames.{from_besides, besides_from}
use Rattle.hashed_changes.specs.Locality.{OwnsSame}
use Rattle.hashed_changes.specs.RenewalLaws.{TypesAreLocal}

module _ (m after : Sets) (n : Name) (same : OwnsSame m after n) where
  back : OwnsSame after m n
  back t e = sym (same t e)

  besides_moved : (a b : Sets) → OwnsSame b a n → owns_besides a NSEC3 n ≡ true → owns_besides b NSEC3 n ≡ true
  besides_moved a b f k = let r = from_besides a NSEC3 n k in besides_from b NSEC3 n r.0 r.1 (sym (f r.0 (not_true (r.0 == NSEC3) r.1)) ∙ r.2)

  same_besides : owns_besides after NSEC3 n ≡ owns_besides m NSEC3 n
  same_besides = both_ways (owns_besides after NSEC3 n) (owns_besides m NSEC3 n) (besides_moved after m same) (besides_moved m after back)

  pub same_delegation : is_unsigned_delegation after n ≡ is_unsigned_delegation m n
  same_delegation = both_ways (is_unsigned_delegation after n) (is_unsigned_delegation m n) (moved after m same) (moved m after back)
    where
      moved : (a b : Sets) → OwnsSame b a n → is_unsigned_delegation a n ≡ true → is_unsigned_delegation b n ≡ true
      moved a b f h = all_from_In (λ t. (t == NS) || (t == NSEC3)) (types_at b n) each
        where
          each : (t : ℕ) → In t (types_at b n) → (t == NS) || (t == NSEC3) ≡ true
          each t i = by (t == NSEC3) refl
            where
              by : (d : Bool) → (t == NSEC3) ≡ d → (t == NS) || (t == NSEC3) ≡ true
              by true e = or_right (t == NS) (t == NSEC3) e
              by false e = In-passes (λ u. (u == NS) || (u == NSEC3)) (types_at a n) h t (type_in a n t (f t e ∙ type_owned b n t i))

  -- ---- the types of its list

  type_moved : (origin : Name) (a b : Sets) → OwnsSame b a n → (t : ℕ) → IsNsec3Type origin a n t → IsNsec3Type origin b n t
  type_moved origin a b f t (inl (k, ne)) = inl (by (t == NSEC3) refl, ne)
    where
      by : (d : Bool) → (t == NSEC3) ≡ d → owns b n t ≡ true
      by true e = absurd (ne (eqb-true t NSEC3 e))
      by false e = sym (f t e) ∙ k
  type_moved origin a b f t (inr (inl (e, inl at))) = inr (inl (e, inl at))
  type_moved origin a b f t (inr (inl (e, inr h))) = inr (inl (e, inr (besides_moved a b f h)))
  type_moved origin a b f t (inr (inr h)) = inr (inr h)

  pub same_types : (origin : Name) → nsec3_types origin after n ≡ nsec3_types origin m n
  same_types origin =
      ascending_same number_order (nsec3_types origin after n) (nsec3_types origin m n) (types_ascend origin after n) (types_ascend origin m n)
      (moved after m same)
      (moved m after back)
    where
      moved : (a b : Sets) → OwnsSame b a n → (t : ℕ) → In t (nsec3_types origin a n) → In t (nsec3_types origin b n)
      moved a b f t i = Contains-In t (nsec3_types origin b n) ((types_are_exact origin b n t).1 (type_moved origin a b f t ((types_are_exact origin a n t).0 (In-Contains t (nsec3_types origin a n) i))))

  -- ---- authority

  module _ (origin : Name) (cuts : (a : Name) → IsTrue (is_above origin a) → IsTrue (is_above a n) → owns after a NS ≡ owns m a NS) where
    same_cuts : is_below_cut origin after n ≡ is_below_cut origin m n
    same_cuts = both_ways (is_below_cut origin after n) (is_below_cut origin m n) (moved after m cuts) (moved m after (λ a h k. sym (cuts a h k)))
      where
        moved : (a b : Sets) → ((w : Name) → IsTrue (is_above origin w) → IsTrue (is_above w n) → owns a w NS ≡ owns b w NS) → is_below_cut origin a n ≡ true → is_below_cut origin b n ≡ true
        moved a b f k =
            let r = In-from_any (λ w. is_above origin w && is_above w n) (owners a NS) k in
            let own = f r.0 (and_left (is_above origin r.0) (is_above r.0 n) r.2) (and_right (is_above origin r.0) (is_above r.0 n) r.2) in
            any_from_In (λ w. is_above origin w && is_above w n) r.0 (owners b NS) (owner_in b r.0 NS (sym own ∙ owner_owned a r.0 NS r.1)) r.2

    pub same_authority : is_authoritative origin after NSEC3 n ≡ is_authoritative origin m NSEC3 n
    same_authority = λ i. is_at_or_above origin n && (same_besides i && not (same_cuts i))

pub types_are_local : TypesAreLocal
types_are_local origin m after n same = same_types m after n same origin
