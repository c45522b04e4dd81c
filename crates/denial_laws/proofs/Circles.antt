-- On a circle of values what comes next is one of them, and a value of the circle is never covered by another and the next one
use Rattle.std.proofs.Common.{◌≡◌, true, ◌&&◌, ◌||◌, List, refl, ap, ◌⊎◌, inl, inr, Ordering, Less, is_lt}
use Rattle.std.specs.Prelude.{Option, Some, None, filter, unwrap_or}
use Rattle.std.specs.Option.{option_or}
use Rattle.zone_proto.specs.Order.{is_before, is_upto, least}
use Rattle.zone_proto.proofs.Members.{In, In-filter, In-from_filter, and_left, and_right}
use Rattle.zone_proto.proofs.Ordering.Orders.{IsOrder, irrefl, before_from_upto, less_test, greatest_is, greatest_none}
use Rattle.zone_denial.specs.Covering.{next_around, covers}
use Rattle.zone_denial.proofs.InOrder.{flipped}
use Rattle.denial_laws.proofs.Tests.{either}

module _ {K : Type 0} {R : K → K → Ordering} (o : IsOrder R) (xs : List K) where
  -- what the next of a value is: the least of those after it, or if there is none the least of all
  data NextIs (x n : K) : Type 0 where
    least_after : In n xs → R x n ≡ Less → ((y : K) → In y xs → R x y ≡ Less → R y n ≡ Less → ⊥) → NextIs x n
    wraps : In n xs → ((y : K) → In y xs → R y n ≡ Less → ⊥) → ((y : K) → In y xs → R x y ≡ Less → ⊥) → NextIs x n

  next_is : (x : K) → In x xs → NextIs x (next_around R xs x)
  next_is x i = by (least R (filter (is_before R x) xs)) refl
    where
      by : (l : Option K) → least R (filter (is_before R x) xs) ≡ l → NextIs x (unwrap_or (option_or l (least R xs)) x)
      by (Some n) e =
          let top = greatest_is (flipped o) (filter (is_before R x) xs) n e in
          let k = In-from_filter (is_before R x) n xs top.among in
          least_after k.0 (less_test (R x n) k.1) (λ y j l s. top.none_greater y (In-filter (is_before R x) y xs j (ap is_lt l)) s)
      by None e = first (least R xs) refl
        where
          first : (l : Option K) → least R xs ≡ l → NextIs x (unwrap_or l x)
          first (Some n) d =
              let top = greatest_is (flipped o) xs n d in
              wraps top.among (λ y j l. top.none_greater y j l) (λ y j l. greatest_none (flipped o) (filter (is_before R x) xs) e y (In-filter (is_before R x) y xs j (ap is_lt l)))
          first None d = absurd (greatest_none (flipped o) xs d x i)

  module _ (x : K) (i : In x xs) where
    abbrev n : K
    n = next_around R xs x

    pub next_among : In (next_around R xs x) xs
    next_among = by (next_is x i)
      where
        by : NextIs x n → In n xs
        by (least_after j l none) = j
        by (wraps j first last) = j

    pub never_covered : (y : K) → In y xs → covers R x (next_around R xs x) y ≡ true → ⊥
    never_covered y j c = by (next_is x i) (either (is_before R x y && is_before R y n) (is_upto R n x && (is_before R x y || is_before R y n)) c)
      where
        pair : (is_before R x y ≡ true) ⊎ (is_before R y n ≡ true) → (R x y ≡ Less) ⊎ (R y n ≡ Less)
        pair (inl e) = inl (less_test (R x y) e)
        pair (inr e) = inr (less_test (R y n) e)

        none_of : ((y : K) → In y xs → R y n ≡ Less → ⊥) → ((y : K) → In y xs → R x y ≡ Less → ⊥) → (R x y ≡ Less) ⊎ (R y n ≡ Less) → ⊥
        none_of first last (inl l) = last y j l
        none_of first last (inr l) = first y j l

        by : NextIs x n → (is_before R x y && is_before R y n ≡ true) ⊎ (is_upto R n x && (is_before R x y || is_before R y n) ≡ true) → ⊥
        by (least_after k l none) (inl e) = none y j (less_test (R x y) (and_left (is_before R x y) (is_before R y n) e)) (less_test (R y n) (and_right (is_before R x y) (is_before R y n) e))
        by (least_after k l none) (inr e) = irrefl o n (before_from_upto o n x n (and_left (is_upto R n x) (is_before R x y || is_before R y n) e) l)
        by (wraps k first last) (inl e) = last y j (less_test (R x y) (and_left (is_before R x y) (is_before R y n) e))
        by (wraps k first last) (inr e) = none_of first last (pair (either (is_before R x y) (is_before R y n) (and_right (is_upto R n x) (is_before R x y || is_before R y n) e)))
