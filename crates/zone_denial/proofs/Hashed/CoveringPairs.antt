-- On a circle of values, one that isn't among them is covered by the last one before it, or if there is none by the
-- last of all, and the next one
use Rattle.std.proofs.Common.{◌≡◌, true, ◌&&◌, ◌||◌, List, refl, sym, ap, subst, Ordering, Less, is_lt}
use Rattle.std.specs.Prelude.{Option, Some, None, filter, unwrap_or}
use Rattle.std.specs.Option.{option_or}
use Rattle.zone_proto.specs.Order.{is_before, is_upto, least}
use Rattle.zone_proto.proofs.Members.{In, In-filter, In-from_filter, or_left, or_right}
use Rattle.zone_proto.proofs.Ordering.Orders.{IsOrder, Side, before, same, after, side, less_test, greatest_is, greatest_none, upto_from_not_before}
use Rattle.zone_denial.specs.Covering.{next_around, covers}
use Rattle.zone_denial.proofs.InOrder.{flipped}

module _ {K : Type 0} {R : K → K → Ordering} (o : IsOrder R) (xs : List K) where
  -- what the next of some values after x is: the least of those after it, or if there is none the least of all
  data NextIs (x n : K) : Type 0 where
    least_after : In n xs → R x n ≡ Less → NextIs x n
    wraps : In n xs → ((y : K) → In y xs → R y n ≡ Less → ⊥) → ((y : K) → In y xs → R x y ≡ Less → ⊥) → NextIs x n

  next_is : (x : K) → In x xs → NextIs x (next_around R xs x)
  next_is x i = by (least R (filter (is_before R x) xs)) refl
    where
      by : (l : Option K) → least R (filter (is_before R x) xs) ≡ l → NextIs x (unwrap_or (option_or l (least R xs)) x)
      by (Some n) e =
          let k = In-from_filter (is_before R x) n xs (greatest_is (flipped o) (filter (is_before R x) xs) n e).among in
          least_after k.0 (less_test (R x n) k.1)
      by None e = first (least R xs) refl
        where
          first : (l : Option K) → least R xs ≡ l → NextIs x (unwrap_or l x)
          first (Some n) d =
              let top = greatest_is (flipped o) xs n d in
              wraps top.among (λ y j l. top.none_greater y j l)
              (λ y j l. greatest_none (flipped o) (filter (is_before R x) xs) e y (In-filter (is_before R x) y xs j (ap is_lt l)))
          first None d = absurd (greatest_none (flipped o) xs d x i)

  -- of some values, x is the last one before c, or if there is none the last of all
  pub data IsLastBefore (c x : K) : Type 0 where
    before_it : R x c ≡ Less → ((y : K) → In y xs → R y c ≡ Less → R x y ≡ Less → ⊥) → IsLastBefore c x
    last_of_all : ((y : K) → In y xs → R y c ≡ Less → ⊥) → ((y : K) → In y xs → R x y ≡ Less → ⊥) → IsLastBefore c x

  module _ (c : K) (off : In c xs → ⊥) where
    between : (x n : K) → R x c ≡ Less → R c n ≡ Less → covers R x n c ≡ true
    between x n l k = or_left (is_before R x c && is_before R c n) (is_upto R n x && (is_before R x c || is_before R c n)) (λ i. is_lt (l i) && is_lt (k i))

    past_ends : (x n : K) → is_upto R n x ≡ true → is_before R x c || is_before R c n ≡ true → covers R x n c ≡ true
    past_ends x n u e = or_right (is_before R x c && is_before R c n) (is_upto R n x && (is_before R x c || is_before R c n)) (λ i. u i && e i)

    from_next : (x n : K) → In x xs → IsLastBefore c x → NextIs x n → covers R x n c ≡ true
    from_next x n i (before_it l none) (least_after j k) = by (side o c n)
      where
        by : Side R c n → covers R x n c ≡ true
        by (before e) = between x n l e
        by (same e) = absurd (off (subst (λ w. In w xs) (sym e) j))
        by (after e) = absurd (none n j e k)
    from_next x n i (before_it l none) (wraps j first last) =
        past_ends x n (upto_from_not_before o n x (λ k. first x i k)) (or_left (is_before R x c) (is_before R c n) (ap is_lt l))
    from_next x n i (last_of_all none last) (least_after j k) = absurd (last n j k)
    from_next x n i (last_of_all none last) (wraps j first last') = by (side o c n)
      where
        by : Side R c n → covers R x n c ≡ true
        by (before e) = past_ends x n (upto_from_not_before o n x (λ k. first x i k)) (or_right (is_before R x c) (is_before R c n) (ap is_lt e))
        by (same e) = absurd (off (subst (λ w. In w xs) (sym e) j))
        by (after e) = absurd (none n j e)

    pub last_covers : (x : K) → In x xs → IsLastBefore c x → covers R x (next_around R xs x) c ≡ true
    last_covers x i h = from_next x (next_around R xs x) i h (next_is x i)
