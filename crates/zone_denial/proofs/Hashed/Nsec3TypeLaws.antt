-- What the NSEC3 set of a name lists: what the name owns but NSEC3, RRSIG where that is anything, and at the origin
-- NSEC3PARAM and RRSIG
use Rattle.std.proofs.Common.{◌≡◌, ◌≢◌, ◌↔◌, ℕ, Bool, true, false, cond, not, List, [], ◌∷◌, ◌==◌, filter, refl, sym, ap, ◌∙◌, true≢false, inl, inr, ◌⊎◌, eq-eqb, eqb-true, nat_cmp}
use Rattle.std.specs.Prelude.{IsTrue}
use Rattle.std.specs.List.{Contains}
use Rattle.std.specs.List.Sorted.{IsStrictlySortedBy}
use Rattle.zone_proto.specs.Names.{Name, name_eq}
use Rattle.zone_proto.specs.Types.{RRSIG, NSEC3, NSEC3PARAM}
use Rattle.zone_proto.proofs.Members.{In, In-Contains, Contains-In, In-filter, In-from_filter, In-from_any, any_from_In, not_true}
use Rattle.zone_proto.proofs.Names.NameTree.{name_eq-Decides}
use Rattle.zone_proto.proofs.Ordering.Orders.{number_order}
use Rattle.zone_proto.proofs.Names.Tree.{name_eq_itself}
use Rattle.zone_map.specs.Zones.{Sets, owns, types_at}
use Rattle.zone_map.proofs.Owned.{type_in, type_owned}
use Rattle.zone_denial.specs.Authority.{owns_besides}
use Rattle.zone_denial.specs.Nsec3Circle.{nsec3_types, with_rrsig, IsNsec3Type}
use Rattle.zone_denial.specs.TypeLists.{in_order}
use Rattle.zone_denial.proofs.InOrder.{In-in_order, In-from_in_order, in_order_ascends}

module _ (origin : Name) (m : Sets) (n : Name) where
  abbrev counts : ℕ → Bool
  counts t = not (t == NSEC3)

  abbrev own : List ℕ
  own = filter counts (types_at m n)

  owned : (t : ℕ) → In t own → IsTrue (owns m n t) × (t ≢ NSEC3)
  owned t i =
      let k = In-from_filter counts t (types_at m n) i in
      (type_owned m n t k.0, λ e. true≢false (sym (eq-eqb t NSEC3 e) ∙ not_true (t == NSEC3) k.1))

  listed_own : (t : ℕ) → IsTrue (owns m n t) → t ≢ NSEC3 → In t own
  listed_own t h ne = In-filter counts t (types_at m n) (type_in m n t h) (by (t == NSEC3) refl)
    where
      by : (b : Bool) → (t == NSEC3) ≡ b → not b ≡ true
      by true e = absurd (ne (eqb-true t NSEC3 e))
      by false e = refl

  besides : (t : ℕ) → In t own → IsTrue (owns_besides m NSEC3 n)
  besides t i = let k = In-from_filter counts t (types_at m n) i in any_from_In counts t (types_at m n) k.0 k.1

  some_own : IsTrue (owns_besides m NSEC3 n) → (t : ℕ) × In t own
  some_own h = let k = In-from_any counts (types_at m n) h in (k.0, In-filter counts k.0 (types_at m n) k.1 k.2)

  -- ---- below the origin

  from_with_rrsig : (t : ℕ) (ts : List ℕ) → In t (with_rrsig ts) → (In t ts) ⊎ ((t ≡ RRSIG) × ((u : ℕ) × In u ts))
  from_with_rrsig t [] i = absurd i
  from_with_rrsig t (u ∷ us) i = by (In-from_in_order number_order t (RRSIG ∷ u ∷ us) i)
    where
      by : In t (RRSIG ∷ u ∷ us) → (In t (u ∷ us)) ⊎ ((t ≡ RRSIG) × ((v : ℕ) × In v (u ∷ us)))
      by (inl e) = inr (sym e, (u, inl refl))
      by (inr j) = inl j

  to_with_rrsig : (t u : ℕ) (ts : List ℕ) → In u ts → (In t ts) ⊎ (t ≡ RRSIG) → In t (with_rrsig ts)
  to_with_rrsig t u [] i h = absurd i
  to_with_rrsig t u (v ∷ vs) i (inl j) = In-in_order number_order t (RRSIG ∷ v ∷ vs) (inr j)
  to_with_rrsig t u (v ∷ vs) i (inr e) = In-in_order number_order t (RRSIG ∷ v ∷ vs) (inl (sym e))

  -- ---- the list, by whether the name is the origin

  abbrev list_of : Bool → List ℕ
  list_of b = cond b (in_order nat_cmp (NSEC3PARAM ∷ RRSIG ∷ own)) (with_rrsig own)

  list_says : (b : Bool) → name_eq n origin ≡ b → (t : ℕ) → In t (list_of b) → IsNsec3Type origin m n t
  list_says true e t i = by (In-from_in_order number_order t (NSEC3PARAM ∷ RRSIG ∷ own) i)
    where
      by : In t (NSEC3PARAM ∷ RRSIG ∷ own) → IsNsec3Type origin m n t
      by (inl k) = inr (inr (sym k, (name_eq-Decides n origin).0 e))
      by (inr (inl k)) = inr (inl (sym k, inl ((name_eq-Decides n origin).0 e)))
      by (inr (inr k)) = inl (owned t k)
  list_says false e t i = by (from_with_rrsig t own i)
    where
      by : (In t own) ⊎ ((t ≡ RRSIG) × ((u : ℕ) × In u own)) → IsNsec3Type origin m n t
      by (inl k) = inl (owned t k)
      by (inr (k, (u, j))) = inr (inl (k, inr (besides u j)))

  list_has : (b : Bool) → name_eq n origin ≡ b → (t : ℕ) → IsNsec3Type origin m n t → In t (list_of b)
  list_has true e t (inl (h, ne)) = In-in_order number_order t (NSEC3PARAM ∷ RRSIG ∷ own) (inr (inr (listed_own t h ne)))
  list_has true e t (inr (inl (k, h))) = In-in_order number_order t (NSEC3PARAM ∷ RRSIG ∷ own) (inr (inl (sym k)))
  list_has true e t (inr (inr (k, h))) = In-in_order number_order t (NSEC3PARAM ∷ RRSIG ∷ own) (inl (sym k))
  list_has false e t (inl (h, ne)) = to_with_rrsig t t own (listed_own t h ne) (inl (listed_own t h ne))
  list_has false e t (inr (inl (k, inl same))) = absurd (true≢false (sym (name_eq_itself origin) ∙ ap (λ a. name_eq a origin) (sym same) ∙ e))
  list_has false e t (inr (inl (k, inr h))) = let u = some_own h in to_with_rrsig t u.0 own u.1 (inr k)
  list_has false e t (inr (inr (k, same))) = absurd (true≢false (sym (name_eq_itself origin) ∙ ap (λ a. name_eq a origin) (sym same) ∙ e))

  pub types_are_exact : (t : ℕ) → Contains (nsec3_types origin m n) t ↔ IsNsec3Type origin m n t
  types_are_exact t = (λ h. list_says (name_eq n origin) refl t (Contains-In t (nsec3_types origin m n) h), λ h. In-Contains t (nsec3_types origin m n) (list_has (name_eq n origin) refl t h))

  with_rrsig_ascends : (ts : List ℕ) → IsStrictlySortedBy nat_cmp (with_rrsig ts)
  unfolding IsStrictlySortedBy
  with_rrsig_ascends [] = tt
  with_rrsig_ascends (t ∷ ts) = in_order_ascends number_order (RRSIG ∷ t ∷ ts)

  list_ascends : (b : Bool) → IsStrictlySortedBy nat_cmp (list_of b)
  list_ascends true = in_order_ascends number_order (NSEC3PARAM ∷ RRSIG ∷ own)
  list_ascends false = with_rrsig_ascends own

  pub types_ascend : IsStrictlySortedBy nat_cmp (nsec3_types origin m n)
  types_ascend = list_ascends (name_eq n origin)
