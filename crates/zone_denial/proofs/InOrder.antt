-- What a total order gives: the order the other way round, and lists in order
use Rattle.std.proofs.Common.{◌≡◌, List, [], ◌∷◌, refl, sym, ap, ◌∙◌, subst, inl, inr, Ordering, Less, Equal, Greater}
use Rattle.std.specs.Ordering.{ordering_reverse, flip_args, match_ordering}
use Rattle.std.specs.List.{AllByRecursion, Contains}
use Rattle.std.specs.List.Sorted.{IsStrictlySortedBy}
use Rattle.std.proofs.lemmas.Cmp.{back_total}
use Rattle.zone_proto.proofs.Members.{In, In-Contains, Contains-In}
use Rattle.zone_proto.proofs.Ordering.Orders.{IsOrder, Side, before, same, after, side, irrefl, asym}
use Rattle.zone_denial.specs.TypeLists.{joined, in_order}
use Rattle.zone_denial.proofs.Ascending.{in_all}

-- the least of a list is the greatest of the order the other way round
pub flipped : {K : Type 0} {R : K → K → Ordering} → IsOrder R → IsOrder (flip_args R)
flipped o = record { total = back_total o.total; exact = λ x y e. sym (o.exact y x e) }

module _ {K : Type 0} {R : K → K → Ordering} (o : IsOrder R) where
  -- ---- a list in order has the elements of the list

  In-joined_same : (x : K) (ys : List K) → In x (joined R x ys)
  In-joined_same x [] = inl refl
  In-joined_same x (y ∷ ys) = by (R x y) refl (In-joined_same x ys)
    where
      by : (r : Ordering) → R x y ≡ r → In x (joined R x ys) → In x (match_ordering r (x ∷ y ∷ ys) (y ∷ ys) (y ∷ joined R x ys))
      by Less e ih = inl refl
      by Equal e ih = inl (sym (o.exact x y e))
      by Greater e ih = inr ih

  In-joined : (x v : K) (ys : List K) → In v ys → In v (joined R x ys)
  In-joined x v [] i = absurd i
  In-joined x v (y ∷ ys) i = by (R x y) i (λ j. In-joined x v ys j)
    where
      by : (r : Ordering) → In v (y ∷ ys) → (In v ys → In v (joined R x ys)) → In v (match_ordering r (x ∷ y ∷ ys) (y ∷ ys) (y ∷ joined R x ys))
      by Less i ih = inr i
      by Equal i ih = i
      by Greater (inl e) ih = inl e
      by Greater (inr j) ih = inr (ih j)

  In-from_joined : (x v : K) (ys : List K) → In v (joined R x ys) → In v (x ∷ ys)
  In-from_joined x v [] i = i
  In-from_joined x v (y ∷ ys) i = by (R x y) i (λ j. In-from_joined x v ys j)
    where
      more : In v (x ∷ ys) → In v (x ∷ y ∷ ys)
      more (inl e) = inl e
      more (inr j) = inr (inr j)

      by : (r : Ordering) → In v (match_ordering r (x ∷ y ∷ ys) (y ∷ ys) (y ∷ joined R x ys)) → (In v (joined R x ys) → In v (x ∷ ys)) → In v (x ∷ y ∷ ys)
      by Less i ih = i
      by Equal i ih = inr i
      by Greater (inl e) ih = inr (inl e)
      by Greater (inr j) ih = more (ih j)

  pub In-in_order : (v : K) (xs : List K) → In v xs → In v (in_order R xs)
  In-in_order v [] i = i
  In-in_order v (x ∷ xs) (inl e) = subst (λ w. In w (joined R x (in_order R xs))) e (In-joined_same x (in_order R xs))
  In-in_order v (x ∷ xs) (inr i) = In-joined x v (in_order R xs) (In-in_order v xs i)

  pub In-from_in_order : (v : K) (xs : List K) → In v (in_order R xs) → In v xs
  In-from_in_order v [] i = i
  In-from_in_order v (x ∷ xs) i = by (In-from_joined x v (in_order R xs) i) (λ j. In-from_in_order v xs j)
    where
      by : In v (x ∷ in_order R xs) → (In v (in_order R xs) → In v xs) → In v (x ∷ xs)
      by (inl e) ih = inl e
      by (inr j) ih = inr (ih j)

  pub in_order_contains : (v : K) (xs : List K) → Contains xs v → Contains (in_order R xs) v
  in_order_contains v xs c = In-Contains v (in_order R xs) (In-in_order v xs (Contains-In v xs c))

  pub in_order_contained : (v : K) (xs : List K) → Contains (in_order R xs) v → Contains xs v
  in_order_contained v xs c = In-Contains v xs (In-from_in_order v xs (Contains-In v (in_order R xs) c))

  -- ---- and ascends

  above_joined : (v x : K) (ys : List K) → R v x ≡ Less → AllByRecursion (λ y. R v y ≡ Less) ys → AllByRecursion (λ y. R v y ≡ Less) (joined R x ys)
  above_joined v x [] e a = (e, a)
  above_joined v x (y ∷ ys) e a = by (R x y) (above_joined v x ys e a.1)
    where
      by : (r : Ordering) → AllByRecursion (λ y. R v y ≡ Less) (joined R x ys) → AllByRecursion (λ y. R v y ≡ Less) (match_ordering r (x ∷ y ∷ ys) (y ∷ ys) (y ∷ joined R x ys))
      by Less ih = (e, a)
      by Equal ih = a
      by Greater ih = (a.0, ih)

  raised : (x y : K) (ys : List K) → R x y ≡ Less → AllByRecursion (λ z. R y z ≡ Less) ys → AllByRecursion (λ z. R x z ≡ Less) ys
  raised x y [] e a = tt
  raised x y (z ∷ ys) e a = (o.total.trans x y z e a.0, raised x y ys e a.1)

  joined_ascends : (x : K) (ys : List K) → IsStrictlySortedBy R ys → IsStrictlySortedBy R (joined R x ys)
  unfolding IsStrictlySortedBy
  joined_ascends x [] a = (tt, tt)
  joined_ascends x (y ∷ ys) a = by (R x y) refl (joined_ascends x ys a.1)
    where
      by : (r : Ordering) → R x y ≡ r → IsStrictlySortedBy R (joined R x ys) → IsStrictlySortedBy R (match_ordering r (x ∷ y ∷ ys) (y ∷ ys) (y ∷ joined R x ys))
      by Less e ih = ((e, raised x y ys e a.0), a)
      by Equal e ih = a
      by Greater e ih = (above_joined y x ys (o.total.antisymm y x ∙ ap ordering_reverse e) a.0, ih)

  pub in_order_ascends : (xs : List K) → IsStrictlySortedBy R (in_order R xs)
  unfolding IsStrictlySortedBy
  in_order_ascends [] = tt
  in_order_ascends (x ∷ xs) = joined_ascends x (in_order R xs) (in_order_ascends xs)

  -- ---- ascending lists with the same elements are the same

  first_not_later : (u v : K) (vs : List K) → AllByRecursion (λ w. R v w ≡ Less) vs → R u v ≡ Less → In u (v ∷ vs) → ⊥
  first_not_later u v vs a e (inl q) = irrefl o u (ap (R u) (sym q) ∙ e)
  first_not_later u v vs a e (inr i) = asym o u v e (in_all (λ w. R v w ≡ Less) vs a u i)

  among_later : (u v : K) (vs : List K) (w : K) → R u w ≡ Less → u ≡ v → In w (v ∷ vs) → In w vs
  among_later u v vs w l e (inl q) = absurd (irrefl o u (ap (R u) (e ∙ q) ∙ l))
  among_later u v vs w l e (inr i) = i

  pub ascending_same : (xs ys : List K) → IsStrictlySortedBy R xs → IsStrictlySortedBy R ys → ((x : K) → In x xs → In x ys) → ((x : K) → In x ys → In x xs) → xs ≡ ys
  unfolding IsStrictlySortedBy
  ascending_same [] [] a b f g = refl
  ascending_same [] (y ∷ ys) a b f g = absurd (g y (inl refl))
  ascending_same (x ∷ xs) [] a b f g = absurd (f x (inl refl))
  ascending_same (x ∷ xs) (y ∷ ys) a b f g =
      let e = first (side o x y) in
      let rest = ascending_same xs ys a.1 b.1
      (λ w i. among_later x y ys w (in_all (λ w. R x w ≡ Less) xs a.0 w i) e (f w (inr i)))
      (λ w i. among_later y x xs w (in_all (λ w. R y w ≡ Less) ys b.0 w i) (sym e) (g w (inr i))) in
      λ i. e i ∷ rest i
    where
      first : Side R x y → x ≡ y
      first (before e) = absurd (first_not_later x y ys b.0 e (f x (inl refl)))
      first (same e) = e
      first (after e) = absurd (first_not_later y x xs a.0 e (g y (inl refl)))

  -- so lists with the same elements are the same in order
  pub in_order_same : (xs ys : List K) → ((x : K) → In x xs → In x ys) → ((x : K) → In x ys → In x xs) → in_order R xs ≡ in_order R ys
  in_order_same xs ys f g = ascending_same (in_order R xs) (in_order R ys) (in_order_ascends xs) (in_order_ascends ys)
      (λ x i. In-in_order x ys (f x (In-from_in_order x xs i)))
      (λ x i. In-in_order x xs (g x (In-from_in_order x ys i)))

  -- and an ascending list is in order
  pub in_order_itself : (xs : List K) → IsStrictlySortedBy R xs → in_order R xs ≡ xs
  in_order_itself xs a = ascending_same (in_order R xs) xs (in_order_ascends xs) a (λ x i. In-from_in_order x xs i) (λ x i. In-in_order x xs i)
