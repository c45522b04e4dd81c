-- Names that are sorted, each left once, are the same names, ascending
use Rattle.std.proofs.Common.{◌≡◌, true, List, [], refl, subst, sym, IsPermutation, IsSorted}
use Rattle.std.specs.Cmp.{both_ways, eq_by_cmp_equiv}
use Rattle.std.specs.List.{Contains, dedup}
use Rattle.std.specs.List.Retain.{DiffersFromLast, IsFiltered}
use Rattle.std.specs.List.Sorted.{IsStrictlySortedBy}
use Rattle.std.specs.Ordering.{eq_by_cmp}
use Rattle.std.proofs.lemmas.List.Filters.{dedup_is}
use Rattle.std.proofs.lemmas.List.Kept.{Contains-dedup, Contains-from_dedup, IsStrictlySortedBy-dedup}
use Rattle.std.proofs.lemmas.List.Sorted.{Contains-permutation, IsPermutation-sym}
use Rattle.zone_proto.specs.Names.{Name, name_cmp}
use Rattle.zone_proto.proofs.Members.{In-Contains, Contains-In}
use Rattle.zone_proto.proofs.Names.Tree.{name_order}
use Rattle.zone_proto.proofs.Ordering.KeyOrder.{equal_of}
use Rattle.hashed_changes.specs.Among.{is_among}
use Rattle.hashed_changes.proofs.Counted.{among_from}
use Rattle.hashed_changes.proofs.Names.{among_in}

module _ (old sorted new : List Name) (moved : IsPermutation old sorted) (left : IsFiltered (DiffersFromLast (eq_by_cmp name_cmp)) [] sorted new) where
  once : new ≡ dedup (eq_by_cmp name_cmp) sorted
  once = dedup_is (eq_by_cmp name_cmp) sorted new left

  pub same_among : (n : Name) → is_among new n ≡ is_among old n
  same_among n = both_ways (is_among new n) (is_among old n) to from
    where
      to : is_among new n ≡ true → is_among old n ≡ true
      to e =
          let kept = subst (λ (ns : List Name). Contains ns n) once (In-Contains n new (among_in new n e)) in
          let there = Contains-from_dedup (eq_by_cmp name_cmp) sorted n kept in
          among_from old n (Contains-In n old (Contains-permutation sorted old n (IsPermutation-sym old sorted moved) there))

      from : is_among old n ≡ true → is_among new n ≡ true
      from e =
          let there = Contains-permutation old sorted n moved (In-Contains n old (among_in old n e)) in
          let kept = Contains-dedup (eq_by_cmp_equiv name_order.total) (λ x y q. name_order.exact x y (equal_of (name_cmp x y) q)) sorted n there in
          among_from new n (Contains-In n new (subst (λ (ns : List Name). Contains ns n) (sym once) kept))

  pub once_ascend : IsSorted name_cmp sorted → IsStrictlySortedBy name_cmp new
  once_ascend s = subst (IsStrictlySortedBy name_cmp) (sym once) (IsStrictlySortedBy-dedup name_order.total (λ x y. refl) sorted s)
