-- What comes next on a circle of values: of an ascending list the element after, and after the last one the first
use Rattle.std.proofs.Common.{◌≡◌, ℕ, suc, ◌<◌, ◌≤◌, List, [], ◌∷◌, ◌++◌, length, get_or, take, drop, drop-cons, refl, sym, ap, ◌∙◌, subst, inl, inr, ◌⊎◌, Ordering, Less, is_lt, arith}
use Rattle.std.specs.Prelude.{Option, Some, None, filter, unwrap_or}
use Rattle.std.specs.Option.{option_or}
use Rattle.std.proofs.Math.ListN.{drop_of_length-le}
use Rattle.std.proofs.lemmas.List.{take-append-drop}
use Rattle.zone_proto.specs.Order.{is_before, least}
use Rattle.zone_proto.proofs.Members.{In, In-filter, In-from_filter, In-from_append, In-append_right}
use Rattle.zone_proto.proofs.Ordering.Orders.{IsOrder, irrefl, asym, less_test, greatest_is, greatest_from}
use Rattle.zone_denial.specs.Covering.{next_around}
use Rattle.zone_denial.proofs.Ascending.{Ascends, Ascends-end, Ascends-apart}
use Rattle.zone_denial.proofs.InOrder.{flipped}

module _ {K : Type 0} {R : K → K → Ordering} (o : IsOrder R) where
  least_none : (xs : List K) → ((x : K) → In x xs → ⊥) → least R xs ≡ None
  least_none xs h = by (least R xs) refl
    where
      by : (p : Option K) → least R xs ≡ p → p ≡ None
      by None e = refl
      by (Some x) e = absurd (h x (greatest_is (flipped o) xs x e).among)

  -- an element of a list in order is one of those before x, x, or one of those after it
  module _ (front : List K) (x : K) (rest : List K) (a : Ascends R (front ++ x ∷ rest)) where
    later : (y : K) → In y (front ++ x ∷ rest) → R x y ≡ Less → In y rest
    later y i l = by (In-from_append y front (x ∷ rest) i)
      where
        by : In y front ⊎ In y (x ∷ rest) → In y rest
        by (inl j) = absurd (asym o y x (Ascends-apart R front (x ∷ rest) a y x j (inl refl)) l)
        by (inr (inl e)) = absurd (irrefl o x (ap (R x) e ∙ l))
        by (inr (inr j)) = j

    after : (y : K) → In y (filter (is_before R x) (front ++ x ∷ rest)) → In y rest
    after y i = let r = In-from_filter (is_before R x) y (front ++ x ∷ rest) i in later y r.0 (less_test (R x y) r.1)

  pub next_there : (front : List K) (x y : K) (rest : List K) → Ascends R (front ++ x ∷ y ∷ rest) → next_around R (front ++ x ∷ y ∷ rest) x ≡ y
  next_there front x y rest a =
      ap (λ p. unwrap_or (option_or p (least R (front ++ x ∷ y ∷ rest))) x)
      (greatest_from (flipped o) (filter (is_before R x) (front ++ x ∷ y ∷ rest)) y (record {
        among = In-filter (is_before R x) y (front ++ x ∷ y ∷ rest) (In-append_right y front (x ∷ y ∷ rest) (inr (inl refl))) (ap is_lt (own.0 y (inl refl)));
        none_greater = λ z i l. none z (after front x (y ∷ rest) a z i) l;
      }))
    where
      own : Ascends R (x ∷ y ∷ rest)
      own = Ascends-end R front (x ∷ y ∷ rest) a

      none : (z : K) → In z (y ∷ rest) → R z y ≡ Less → ⊥
      none z (inl e) l = irrefl o y (ap (λ w. R w y) e ∙ l)
      none z (inr j) l = asym o y z (own.1.0 z j) l

  pub next_wraps : (front : List K) (x f : K) (rest : List K) → front ++ x ∷ [] ≡ f ∷ rest → Ascends R (f ∷ rest) → next_around R (f ∷ rest) x ≡ f
  next_wraps front x f rest e a =
      let none : least R (filter (is_before R x) (f ∷ rest)) ≡ None = least_none _ (λ y i. after front x [] (subst (Ascends R) (sym e) a) y (subst (λ ks. In y (filter (is_before R x) ks)) (sym e) i)) in
      let first = greatest_from (flipped o) (f ∷ rest) f (record { among = inl refl; none_greater = λ z i l. none_less z i l }) in
      (λ i. unwrap_or (option_or (none i) (first i)) x)
    where
      none_less : (z : K) → In z (f ∷ rest) → R z f ≡ Less → ⊥
      none_less z (inl e) l = irrefl o f (ap (λ w. R w f) e ∙ l)
      none_less z (inr j) l = asym o f z (a.0 z j) l

  -- by places
  pub next_at : (xs : List K) (i : ℕ) (d : K) → Ascends R xs → suc i < length xs → next_around R xs (get_or xs i d) ≡ get_or xs (suc i) d
  next_at xs i d a lt =
      let parts : xs ≡ take i xs ++ get_or xs i d ∷ get_or xs (suc i) d ∷ drop (suc (suc i)) xs =
      sym (take-append-drop i xs)
      ∙ ap (λ ks. take i xs ++ ks) (drop-cons xs i d (omega arith) ∙ ap (λ ks. get_or xs i d ∷ ks) (drop-cons xs (suc i) d lt)) in
      ap (λ ks. next_around R ks (get_or xs i d)) parts
      ∙ next_there (take i xs) (get_or xs i d) (get_or xs (suc i) d) (drop (suc (suc i)) xs) (subst (Ascends R) parts a)

  pub first_at : (xs : List K) (i : ℕ) (d : K) → Ascends R xs → i < length xs → length xs ≤ suc i → next_around R xs (get_or xs i d) ≡ get_or xs 0 d
  first_at [] i d a lt end = absurd (omega arith)
  first_at (f ∷ rest) i d a lt end =
      let parts : take i (f ∷ rest) ++ get_or (f ∷ rest) i d ∷ [] ≡ f ∷ rest =
      ap (λ ks. take i (f ∷ rest) ++ ks) (sym (drop-cons (f ∷ rest) i d lt ∙ ap (λ ks. get_or (f ∷ rest) i d ∷ ks) (drop_of_length-le (f ∷ rest) end)))
      ∙ take-append-drop i (f ∷ rest) in
      next_wraps (take i (f ∷ rest)) (get_or (f ∷ rest) i d) f rest parts a
