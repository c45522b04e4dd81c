-- The laws of the order of names, for every list of lists of numbers.
use Rattle.std.proofs.Common.{◌≡◌, ℕ, List, [], ◌∷◌, ◌++◌, reverse, refl, sym, ap, ◌∙◌}
use Rattle.std.specs.declared.cmp.Ordering.{Ordering}
use Rattle.std.specs.declared.cmp.Ordering.TheVariants.{Less, Equal, Greater}
use Rattle.std.specs.Ordering.{nat_cmp, eq_by_cmp, ordering_then}
use Rattle.std.specs.Cmp.{IsTotalOrder, IsEquivalence, on_total, eq_by_cmp_equiv}
use Rattle.std.specs.Cmp.Lexicographic.{slice_cmp, lists_total, nat_list_cmp_total}
use Rattle.std.specs.Ordering.{is_gt, ordering_reverse}
use Rattle.std.proofs.lemmas.Map.Lookups.{CmpEqualImpliesEq, exact_bytes}
use Rattle.std.proofs.lemmas.Cmp.{tied_itself}
use Rattle.std.proofs.lemmas.List.{reverse-reverse, reverse-append}
use Rattle.std.proofs.Common.{false, true}
use Rattle.std.specs.Hash as fed
use Rattle.std.proofs.lemmas.Map.Views.{tells_apart}
use Rattle.zone_proto.specs.Names.{name_cmp, caseless_cmp, lower, IsAtOrAbove}

pub name_cmp_total : IsTotalOrder name_cmp
name_cmp_total = on_total reverse (lists_total nat_list_cmp_total)

pub caseless_cmp_total : IsTotalOrder caseless_cmp
caseless_cmp_total = on_total lower name_cmp_total

pub name_eq_equiv : IsEquivalence (eq_by_cmp name_cmp)
name_eq_equiv = eq_by_cmp_equiv name_cmp_total

pub caseless_eq_equiv : IsEquivalence (eq_by_cmp caseless_cmp)
caseless_eq_equiv = eq_by_cmp_equiv caseless_cmp_total

-- ---- what the order does not tell apart is one

first_tied : (o p : Ordering) → ordering_then o p ≡ Equal → o ≡ Equal
first_tied Less p h = h
first_tied Equal p h = refl
first_tied Greater p h = h

then_tied : (o p : Ordering) → ordering_then o p ≡ Equal → p ≡ Equal
then_tied Less p h = cc
then_tied Equal p h = h
then_tied Greater p h = cc

pub exact_lists : {K : Type 0} (R : K → K → Ordering) → CmpEqualImpliesEq R → CmpEqualImpliesEq (slice_cmp R)
exact_lists R e [] [] h = refl
exact_lists R e [] (y ∷ ys) h = cc
exact_lists R e (x ∷ xs) [] h = cc
exact_lists R e (x ∷ xs) (y ∷ ys) h =
    λ i. e x y (first_tied (R x y) (slice_cmp R xs ys) h) i ∷ exact_lists R e xs ys (then_tied (R x y) (slice_cmp R xs ys) h) i

pub exact_names : CmpEqualImpliesEq name_cmp
exact_names x y h =
    sym (reverse-reverse x) ∙ ap reverse (exact_lists (slice_cmp nat_cmp) exact_bytes (reverse x) (reverse y) h) ∙ reverse-reverse y

-- names that differ in case alone are one in lower case
pub exact_caseless : (x y : List (List ℕ)) → caseless_cmp x y ≡ Equal → lower x ≡ lower y
exact_caseless x y h = exact_names (lower x) (lower y) h

-- ---- a front comes before what goes on from it, and what goes on from it stands together

module _ {K : Type 0} (R : K → K → Ordering) (o : IsTotalOrder R) (exact : CmpEqualImpliesEq R) where
  pub front_first : (p t : List K) → is_gt (slice_cmp R p (p ++ t)) ≡ false
  front_first [] [] = refl
  front_first [] (y ∷ t) = refl
  front_first (x ∷ p) t =
      let tied : R x x ≡ Equal = tied_itself o x in
      ap (λ r. is_gt (ordering_then r (slice_cmp R p (p ++ t)))) tied ∙ front_first p t

  -- one step of "first, then the rest", both ways round
  step : (a b p q : Ordering) → a ≡ ordering_reverse b → is_gt (ordering_then a p) ≡ false → is_gt (ordering_then b q) ≡ false
      → (a ≡ Equal) × (is_gt p ≡ false) × (is_gt q ≡ false)
  step Less Less p q e h g = cc
  step Less Equal p q e h g = cc
  step Less Greater p q e h g = cc
  step Equal Less p q e h g = cc
  step Equal Equal p q e h g = (refl, h, g)
  step Equal Greater p q e h g = cc
  step Greater b p q e h g = cc

  pub fronts_together : (p y t : List K) → is_gt (slice_cmp R p y) ≡ false → is_gt (slice_cmp R y (p ++ t)) ≡ false → (s : List K) × (y ≡ p ++ s)
  fronts_together [] y t h g = (y, refl)
  fronts_together (x ∷ p) [] t h g = cc
  fronts_together (x ∷ p) (z ∷ y) t h g =
      let now = step (R x z) (R z x) (slice_cmp R p y) (slice_cmp R y (p ++ t)) (o.antisymm x z) h g in
      let more : (s : List K) × (y ≡ p ++ s) = fronts_together p y t now.1 now.2 in
      (more.0, λ i. sym (exact x z now.0) i ∷ more.1 i)

-- ---- the same of names

pub ancestor_first : (a n : List (List ℕ)) → IsAtOrAbove a n → is_gt (name_cmp a n) ≡ false
ancestor_first a n below =
    let e : reverse n ≡ reverse a ++ reverse below.0 = ap reverse below.1 ∙ reverse-append below.0 a in
    ap (λ r. is_gt (slice_cmp (slice_cmp nat_cmp) (reverse a) r)) e
    ∙ front_first (slice_cmp nat_cmp) nat_list_cmp_total exact_bytes (reverse a) (reverse below.0)

pub descendants_together : (a x n : List (List ℕ)) → IsAtOrAbove a n → is_gt (name_cmp a x) ≡ false → is_gt (name_cmp x n) ≡ false → IsAtOrAbove a x
descendants_together a x n below after before =
    let e : reverse n ≡ reverse a ++ reverse below.0 = ap reverse below.1 ∙ reverse-append below.0 a in
    let upto : is_gt (slice_cmp (slice_cmp nat_cmp) (reverse x) (reverse a ++ reverse below.0)) ≡ false =
    ap (λ r. is_gt (slice_cmp (slice_cmp nat_cmp) (reverse x) r)) (sym e) ∙ before in
    let more : (s : List (List ℕ)) × (reverse x ≡ reverse a ++ s) =
    fronts_together (slice_cmp nat_cmp) nat_list_cmp_total exact_bytes (reverse a) (reverse x) (reverse below.0) after upto in
    (reverse more.0, sym (reverse-reverse x) ∙ ap reverse more.1 ∙ reverse-append (reverse a) more.0 ∙ ap (λ z. reverse more.0 ++ z) (reverse-reverse a))

-- ---- equal names are hashed alike

pub name_eq_fed : (x y : List (List ℕ)) → eq_by_cmp name_cmp x y ≡ true → fed.slice (fed.slice fed.u8) x ≡ fed.slice (fed.slice fed.u8) y
name_eq_fed x y h = ap (fed.slice (fed.slice fed.u8)) (tells_apart exact_names x y h)

pub caseless_eq_fed : (x y : List (List ℕ)) → eq_by_cmp caseless_cmp x y ≡ true → fed.slice (fed.slice fed.u8) (lower x) ≡ fed.slice (fed.slice fed.u8) (lower y)
caseless_eq_fed x y h = ap (fed.slice (fed.slice fed.u8)) (tells_apart exact_names (lower x) (lower y) h)
