-- What comes next on a circle of values, where some of them come or go
use Rattle.std.proofs.Common.{◌≡◌, Bool, true, List, refl, sym, ap, ◌∙◌, ◌⊎◌, inl, inr, Ordering, Less, is_lt}
use Rattle.std.specs.Prelude.{Option, Some, None, filter, unwrap_or}
use Rattle.std.specs.Option.{option_or}
use Rattle.zone_proto.specs.Order.{is_before, is_upto, greatest, least}
use Rattle.zone_proto.proofs.Members.{In, In-filter, In-from_filter}
use Rattle.zone_proto.proofs.Ordering.Orders.{IsOrder, Side, before, same, after, side, irrefl, asym, less_test, upto_cases, upto_before, upto_same, upto_from_not_before, greatest_is, greatest_none}
use Rattle.zone_denial.specs.Covering.{next_around}
use Rattle.zone_denial.proofs.InOrder.{flipped}
use Rattle.hashed_changes.specs.Around.{nearest_around}

module _ {K : Type 0} {R : K → K → Ordering} (o : IsOrder R) where
  -- y stands strictly between d and x on the circle, on the way up from d; where x is d itself, each other value does
  pub data Between (d x y : K) : Type 0 where
    inside : R d y ≡ Less → R y x ≡ Less → Between d x y
    above : is_upto R x d ≡ true → R d y ≡ Less → Between d x y
    below : is_upto R x d ≡ true → R y x ≡ Less → Between d x y

  pub not_both : (x d : K) → is_upto R x d ≡ true → R d x ≡ Less → ⊥
  not_both x d u l = by (upto_cases o x d u)
    where
      by : (x ≡ d) ⊎ (R x d ≡ Less) → ⊥
      by (inl e) = irrefl o d (ap (R d) (sym e) ∙ l)
      by (inr k) = asym o x d k l

  -- what stands between d and w does so between d and x, where w does
  pub through : (d x w y : K) → Between d x w → Between d w y → Between d x y
  through d x w y (inside l k) (inside p q) = inside p (o.total.trans y w x q k)
  through d x w y (inside l k) (above u p) = absurd (not_both w d u l)
  through d x w y (inside l k) (below u q) = absurd (not_both w d u l)
  through d x w y (above v l) (inside p q) = above v p
  through d x w y (above v l) (above u p) = absurd (not_both w d u l)
  through d x w y (above v l) (below u q) = absurd (not_both w d u l)
  through d x w y (below v k) (inside p q) = above v p
  through d x w y (below v k) (above u p) = above v p
  through d x w y (below v k) (below u q) = below v (o.total.trans y w x q k)

  -- of two values one comes first
  pub first_of_two : (d x y : K) → R x y ≡ Less → Between d x y ⊎ Between d y x
  first_of_two d x y l = by (side o d x) (side o d y)
    where
      by : Side R d x → Side R d y → Between d x y ⊎ Between d y x
      by (before e) f = inr (inside e l)
      by (same e) (before f) = inl (above (upto_same o x d (sym e)) f)
      by (same e) (same f) = inr (below (upto_same o y d (sym f)) l)
      by (same e) (after f) = inr (below (upto_before o y d f) l)
      by (after e) (before f) = inl (above (upto_before o x d e) f)
      by (after e) (same f) = inr (below (upto_same o y d (sym f)) l)
      by (after e) (after f) = inr (below (upto_before o y d f) l)

  -- ---- the next value

  pub record IsNext (xs : List K) (d z : K) : Type 0 where
    pub among : In z xs
    pub none_between : (w : K) → In w xs → Between d z w → ⊥

  pub next_is : (xs : List K) (d : K) → In d xs → IsNext xs d (next_around R xs d)
  next_is xs d i = by (least R (filter (is_before R d) xs)) refl
    where
      by : (l : Option K) → least R (filter (is_before R d) xs) ≡ l → IsNext xs d (unwrap_or (option_or l (least R xs)) d)
      by (Some z) e = record { among = there.0; none_between = none }
        where
          there : In z xs × (is_before R d z ≡ true)
          there = In-from_filter (is_before R d) z xs (greatest_is (flipped o) (filter (is_before R d) xs) z e).among

          none : (w : K) → In w xs → Between d z w → ⊥
          none w j (inside l k) = (greatest_is (flipped o) (filter (is_before R d) xs) z e).none_greater w (In-filter (is_before R d) w xs j (ap is_lt l)) k
          none w j (above u l) = not_both z d u (less_test (R d z) there.1)
          none w j (below u k) = not_both z d u (less_test (R d z) there.1)
      by None e = first (least R xs) refl
        where
          none_later : (w : K) → In w xs → R d w ≡ Less → ⊥
          none_later w j l = greatest_none (flipped o) (filter (is_before R d) xs) e w (In-filter (is_before R d) w xs j (ap is_lt l))

          first : (l : Option K) → least R xs ≡ l → IsNext xs d (unwrap_or l d)
          first (Some z) f = record { among = (greatest_is (flipped o) xs z f).among; none_between = none }
            where
              none : (w : K) → In w xs → Between d z w → ⊥
              none w j (inside l k) = none_later w j l
              none w j (above u l) = none_later w j l
              none w j (below u k) = (greatest_is (flipped o) xs z f).none_greater w j k
          first None f = absurd (greatest_none (flipped o) xs f d i)

  pub only_next : (xs : List K) (d z y : K) → IsNext xs d z → IsNext xs d y → z ≡ y
  only_next xs d z y h k = by (side o z y)
    where
      neither : Between d z y ⊎ Between d y z → ⊥
      neither (inl b) = h.none_between y k.among b
      neither (inr b) = k.none_between z h.among b

      turned : Between d y z ⊎ Between d z y → Between d z y ⊎ Between d y z
      turned (inl b) = inr b
      turned (inr b) = inl b

      by : Side R z y → z ≡ y
      by (before e) = absurd (neither (first_of_two d z y e))
      by (same e) = e
      by (after e) = absurd (neither (turned (first_of_two d y z e)))

  -- ---- it is the same among other values, where each that isn't among both has one that is between d and it

  module _ (xs ys : List K) (d : K) (Stays : K → Type 0) (in_both : (y : K) → Stays y → In y xs × In y ys) (each : (w : K) → In w xs ⊎ In w ys → Stays w ⊎ ((y : K) × Stays y × Between d w y)) (on : Stays d) where
    was : IsNext xs d (next_around R xs d)
    was = next_is xs d (in_both d on).0

    stays : Stays (next_around R xs d)
    stays = by (each (next_around R xs d) (inl was.among))
      where
        by : Stays (next_around R xs d) ⊎ ((y : K) × Stays y × Between d (next_around R xs d) y) → Stays (next_around R xs d)
        by (inl k) = k
        by (inr (y, k, b)) = absurd (was.none_between y (in_both y k).0 b)

    none : (w : K) → In w ys → Between d (next_around R xs d) w → ⊥
    none w i c = by (each w (inr i))
      where
        by : Stays w ⊎ ((y : K) × Stays y × Between d w y) → ⊥
        by (inl k) = was.none_between w (in_both w k).0 c
        by (inr (y, k, b)) = was.none_between y (in_both y k).0 (through d (next_around R xs d) w y c b)

    pub same_next : next_around R ys d ≡ next_around R xs d
    same_next =
        only_next ys d (next_around R ys d) (next_around R xs d) (next_is ys d (in_both d on).1)
        (record { among = (in_both (next_around R xs d) stays).1; none_between = none })

  -- ---- the nearest value before another on the circle, where it isn't d, is between d and that

  module _ (xs : List K) (d x : K) (i : In d xs) (other : nearest_around R xs x ≡ Some d → ⊥) where
    abbrev is_earlier : K → Bool
    is_earlier y = is_before R y x

    abbrev earlier : List K
    earlier = filter is_earlier xs

    nearer : (y : K) → (R y d ≡ Less → ⊥) → (d ≡ y → ⊥) → R d y ≡ Less
    nearer y h off = by (side o d y)
      where
        by : Side R d y → R d y ≡ Less
        by (before e) = e
        by (same e) = absurd (off e)
        by (after e) = absurd (h e)

    last_earlier : (y : K) → greatest R earlier ≡ Some y → Between d x y
    last_earlier y e = by (side o d x)
      where
        there : In y xs × (is_before R y x ≡ true)
        there = In-from_filter is_earlier y xs (greatest_is o earlier y e).among

        off : d ≡ y → ⊥
        off q = other (ap (λ (p : Option K). option_or p (greatest R xs)) e ∙ ap Some (sym q))

        by : Side R d x → Between d x y
        by (before l) = inside (nearer y ((greatest_is o earlier y e).none_greater d (In-filter is_earlier d xs i (ap is_lt l))) off) (less_test (R y x) there.1)
        by (same q) = below (upto_same o x d (sym q)) (less_test (R y x) there.1)
        by (after l) = below (upto_before o x d l) (less_test (R y x) there.1)

    last_of_all : (y : K) → greatest R earlier ≡ None → greatest R xs ≡ Some y → Between d x y
    last_of_all y e f = above (upto_from_not_before o x d (λ l. greatest_none o earlier e d (In-filter is_earlier d xs i (ap is_lt l)))) (nearer y ((greatest_is o xs y f).none_greater d i) off)
      where
        off : d ≡ y → ⊥
        off q = other (ap (λ (p : Option K). option_or p (greatest R xs)) e ∙ f ∙ ap Some (sym q))

    pub nearest_between : (y : K) × In y xs × Between d x y
    nearest_between = by (greatest R earlier) refl (greatest R xs) refl
      where
        by : (p : Option K) → greatest R earlier ≡ p → (q : Option K) → greatest R xs ≡ q → (y : K) × In y xs × Between d x y
        by (Some y) e q f = (y, (In-from_filter is_earlier y xs (greatest_is o earlier y e).among).0, last_earlier y e)
        by None e (Some y) f = (y, (greatest_is o xs y f).among, last_of_all y e f)
        by None e None f = absurd (greatest_none o xs f d i)
