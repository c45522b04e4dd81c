-- Values in ascending order, each once, are the one ascending list of the same values
use Rattle.std.proofs.Common.{◌≡◌, List, [], ◌∷◌, Bool, true, refl, sym, ap, ◌∙◌, inl, inr, subst, Ordering, Less, Equal, Greater}
use Rattle.std.specs.Prelude.{fold}
use Rattle.std.specs.Cmp.{IsEquivalence}
use Rattle.std.specs.List.{AllByRecursion, dedup}
use Rattle.std.specs.List.Retain.{DiffersFromLast, IsFiltered}
use Rattle.std.specs.List.Sorted.{IsPermutation, IsSorted, IsStrictlySortedBy}
use Rattle.std.specs.Ordering.{eq_by_cmp, match_ordering, ordering_reverse}
use Rattle.std.proofs.lemmas.List.Filters.{dedup_is}
use Rattle.std.proofs.lemmas.List.Kept.{Contains-dedup, Contains-from_dedup, IsStrictlySortedBy-dedup}
use Rattle.std.proofs.lemmas.List.Sorted.{Contains-permutation, IsPermutation-sym}
use Rattle.zone_proto.proofs.Members.{In, In-Contains, Contains-In}
use Rattle.zone_proto.proofs.Ordering.Orders.{IsOrder, Side, before, same, after, side, irrefl, asym}

module _ {K : Type 0} (cmp : K → K → Ordering) where
  -- a value among others that ascend, unless it is there
  abbrev pub with_value : K → List K → List K
  with_value x [] = x ∷ []
  with_value x (y ∷ ys) = match_ordering (cmp y x) (y ∷ with_value x ys) (y ∷ ys) (x ∷ y ∷ ys)

  -- values put there one after the other
  abbrev pub put_all : List K → List K → List K
  put_all set xs = fold (λ s x. with_value x s) set xs

  module _ (o : IsOrder cmp) where
    -- ---- the values of a list stay

    In-with_same : (x : K) (ys : List K) → In x (with_value x ys)
    In-with_same x [] = inl refl
    In-with_same x (y ∷ ys) = by (cmp y x) refl (In-with_same x ys)
      where
        by : (r : Ordering) → cmp y x ≡ r → In x (with_value x ys) → In x (match_ordering r (y ∷ with_value x ys) (y ∷ ys) (x ∷ y ∷ ys))
        by Less e ih = inr ih
        by Equal e ih = inl (o.exact y x e)
        by Greater e ih = inl refl

    In-with : (x v : K) (ys : List K) → In v ys → In v (with_value x ys)
    In-with x v [] i = absurd i
    In-with x v (y ∷ ys) i = by (cmp y x) i (λ j. In-with x v ys j)
      where
        by : (r : Ordering) → In v (y ∷ ys) → (In v ys → In v (with_value x ys)) → In v (match_ordering r (y ∷ with_value x ys) (y ∷ ys) (x ∷ y ∷ ys))
        by Less (inl e) ih = inl e
        by Less (inr j) ih = inr (ih j)
        by Equal i ih = i
        by Greater i ih = inr i

    In-from_with : (x v : K) (ys : List K) → In v (with_value x ys) → In v (x ∷ ys)
    In-from_with x v [] i = i
    In-from_with x v (y ∷ ys) i = by (cmp y x) i (λ j. In-from_with x v ys j)
      where
        more : In v (x ∷ ys) → In v (x ∷ y ∷ ys)
        more (inl e) = inl e
        more (inr j) = inr (inr j)

        by : (r : Ordering) → In v (match_ordering r (y ∷ with_value x ys) (y ∷ ys) (x ∷ y ∷ ys)) → (In v (with_value x ys) → In v (x ∷ ys)) → In v (x ∷ y ∷ ys)
        by Less (inl e) ih = inr (inl e)
        by Less (inr j) ih = more (ih j)
        by Equal i ih = inr i
        by Greater i ih = i

    In-put_before : (v : K) (set xs : List K) → In v set → In v (put_all set xs)
    In-put_before v set [] i = i
    In-put_before v set (x ∷ xs) i = In-put_before v (with_value x set) xs (In-with x v set i)

    In-put : (v : K) (set xs : List K) → In v xs → In v (put_all set xs)
    In-put v set [] i = absurd i
    In-put v set (x ∷ xs) (inl e) = In-put_before v (with_value x set) xs (subst (λ w. In w (with_value x set)) e (In-with_same x set))
    In-put v set (x ∷ xs) (inr i) = In-put v (with_value x set) xs i

    In-from_put : (v : K) (set xs : List K) → (P : Type 0) → (In v set → P) → (In v xs → P) → In v (put_all set xs) → P
    In-from_put v set [] P there new i = there i
    In-from_put v set (x ∷ xs) P there new i =
        In-from_put v (with_value x set) xs P (λ j. by (In-from_with x v set j)) (λ j. new (inr j)) i
      where
        by : In v (x ∷ set) → P
        by (inl e) = new (inl e)
        by (inr j) = there j

    -- ---- and ascend

    abbrev above : K → List K → Type 0
    above x ys = AllByRecursion (λ y. cmp x y ≡ Less) ys

    above_with : (v x : K) (ys : List K) → cmp v x ≡ Less → above v ys → above v (with_value x ys)
    above_with v x [] e a = (e, a)
    above_with v x (y ∷ ys) e a = by (cmp y x) (above_with v x ys e a.1)
      where
        by : (r : Ordering) → above v (with_value x ys) → above v (match_ordering r (y ∷ with_value x ys) (y ∷ ys) (x ∷ y ∷ ys))
        by Less ih = (a.0, ih)
        by Equal ih = a
        by Greater ih = (e, a)

    raised : (x y : K) (ys : List K) → cmp x y ≡ Less → above y ys → above x ys
    raised x y [] e a = tt
    raised x y (v ∷ ys) e a = (o.total.trans x y v e a.0, raised x y ys e a.1)

    with_ascends : (x : K) (ys : List K) → IsStrictlySortedBy cmp ys → IsStrictlySortedBy cmp (with_value x ys)
    unfolding IsStrictlySortedBy
    with_ascends x [] a = (tt, tt)
    with_ascends x (y ∷ ys) a = by (cmp y x) refl (with_ascends x ys a.1)
      where
        by : (r : Ordering) → cmp y x ≡ r → IsStrictlySortedBy cmp (with_value x ys) → IsStrictlySortedBy cmp (match_ordering r (y ∷ with_value x ys) (y ∷ ys) (x ∷ y ∷ ys))
        by Less e ih = (above_with y x ys e a.0, ih)
        by Equal e ih = a
        by Greater e ih = let less : cmp x y ≡ Less = o.total.antisymm x y ∙ ap ordering_reverse e in ((less, raised x y ys less a.0), a)

    put_ascends : (set xs : List K) → IsStrictlySortedBy cmp set → IsStrictlySortedBy cmp (put_all set xs)
    put_ascends set [] a = a
    put_ascends set (x ∷ xs) a = put_ascends (with_value x set) xs (with_ascends x set a)

    -- ---- ascending lists of the same values are the same

    above_in : (x : K) (ys : List K) (v : K) → above x ys → In v ys → cmp x v ≡ Less
    above_in x [] v a i = absurd i
    above_in x (y ∷ ys) v a (inl e) = subst (λ w. cmp x w ≡ Less) e a.0
    above_in x (y ∷ ys) v a (inr i) = above_in x ys v a.1 i

    first_not_later : (u v : K) (vs : List K) → above v vs → cmp u v ≡ Less → In u (v ∷ vs) → ⊥
    first_not_later u v vs a e (inl q) = irrefl o u (ap (cmp u) (sym q) ∙ e)
    first_not_later u v vs a e (inr i) = asym o u v e (above_in v vs u a i)

    among_later : (u v : K) (vs : List K) (w : K) → cmp u w ≡ Less → u ≡ v → In w (v ∷ vs) → In w vs
    among_later u v vs w l e (inl q) = absurd (irrefl o u (ap (cmp u) (e ∙ q) ∙ l))
    among_later u v vs w l e (inr i) = i

    one_list : (xs ys : List K) → IsStrictlySortedBy cmp xs → IsStrictlySortedBy cmp ys → ((v : K) → In v xs → In v ys) → ((v : K) → In v ys → In v xs) → xs ≡ ys
    unfolding IsStrictlySortedBy
    one_list [] [] a b f g = refl
    one_list [] (y ∷ ys) a b f g = absurd (g y (inl refl))
    one_list (x ∷ xs) [] a b f g = absurd (f x (inl refl))
    one_list (x ∷ xs) (y ∷ ys) a b f g =
        let e = first (side o x y) in
        let rest = one_list xs ys a.1 b.1
        (λ v i. among_later x y ys v (above_in x xs v a.0 i) e (f v (inr i)))
        (λ v i. among_later y x xs v (above_in y ys v b.0 i) (sym e) (g v (inr i))) in
        λ i. e i ∷ rest i
      where
        first : Side cmp x y → x ≡ y
        first (before e) = absurd (first_not_later x y ys b.0 e (f x (inl refl)))
        first (same e) = e
        first (after e) = absurd (first_not_later y x xs a.0 e (g y (inl refl)))

    -- ---- so sorted values, each once, are these

    none_ascend : IsStrictlySortedBy cmp []
    unfolding IsStrictlySortedBy
    none_ascend = tt

    pub sorted_once : (eq : K → K → Bool) → IsEquivalence eq → ((x y : K) → eq x y ≡ true → x ≡ y) → ((x y : K) → eq x y ≡ eq_by_cmp cmp x y)
        → (xs moved once : List K) → IsPermutation xs moved → IsSorted cmp moved → IsFiltered (DiffersFromLast eq) [] moved once → once ≡ put_all [] xs
    sorted_once eq laws exact tied xs moved once permutes sorted kept =
        dedup_is eq moved once kept
        ∙ one_list (dedup eq moved) (put_all [] xs) (IsStrictlySortedBy-dedup o.total tied moved sorted) (put_ascends [] xs none_ascend)
        (λ v i. In-put v [] xs (Contains-In v xs (Contains-permutation moved xs v (IsPermutation-sym xs moved permutes) (Contains-from_dedup eq moved v (In-Contains v (dedup eq moved) i)))))
        (λ v i. Contains-In v (dedup eq moved) (Contains-dedup laws exact moved v (Contains-permutation xs moved v permutes (In-Contains v xs (In-from_put v [] xs (In v xs) (λ j. absurd j) (λ j. j) i)))))
