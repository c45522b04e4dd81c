-- What stands between values on a circle, and what is nearest before one
use Rattle.std.proofs.Common.{◌≡◌, Bool, true, List, refl, sym, ap, ◌∙◌, subst, ◌⊎◌, inl, inr, Ordering, Less, is_lt}
use Rattle.std.specs.Prelude.{Option, Some, None, filter}
use Rattle.std.specs.Option.{option_or}
use Rattle.zone_proto.specs.Order.{is_before, is_upto, greatest}
use Rattle.zone_proto.proofs.Members.{In, In-filter, In-from_filter}
use Rattle.zone_proto.proofs.Ordering.Orders.{IsOrder, Side, before, same, after, side, less_test, before_from_upto, upto_before, upto_same, upto_cases, greatest_is, greatest_none}
use Rattle.hashed_changes.specs.Around.{nearest_around}
use Rattle.hashed_changes.proofs.Circle.{Between, inside, above, below, not_both, through, first_of_two}

module _ {K : Type 0} {R : K → K → Ordering} (o : IsOrder R) where
  less_upto : (x y z : K) → R x y ≡ Less → is_upto R y z ≡ true → R x z ≡ Less
  less_upto x y z l u = by (upto_cases o y z u)
    where
      by : (y ≡ z) ⊎ (R y z ≡ Less) → R x z ≡ Less
      by (inl e) = ap (R x) (sym e) ∙ l
      by (inr k) = o.total.trans x y z l k

  -- what stands between d and q stands between d and z, is z, or stands between z and q
  pub split : (d q z w : K) → Between o d q w → Between o d z w ⊎ ((z ≡ w) ⊎ Between o z q w)
  split d q z w (inside l k) = by (side o z w)
    where
      by : Side R z w → Between o d z w ⊎ ((z ≡ w) ⊎ Between o z q w)
      by (before e) = inr (inr (inside e k))
      by (same e) = inr (inl e)
      by (after e) = inl (inside l e)
  split d q z w (above u l) = by (side o z w) (side o q z)
    where
      by : Side R z w → Side R q z → Between o d z w ⊎ ((z ≡ w) ⊎ Between o z q w)
      by (before e) (before f) = inr (inr (above (upto_before o q z f) e))
      by (before e) (same f) = inr (inr (above (upto_same o q z f) e))
      by (before e) (after f) = inl (above (upto_before o z d (less_upto z q d f u)) l)
      by (same e) f = inr (inl e)
      by (after e) f = inl (inside l e)
  split d q z w (below u k) = by (side o z w) (side o z d)
    where
      by : Side R z w → Side R z d → Between o d z w ⊎ ((z ≡ w) ⊎ Between o z q w)
      by (before e) f = inr (inr (inside e k))
      by (same e) f = inr (inl e)
      by (after e) (before f) = inl (below (upto_before o z d f) e)
      by (after e) (same f) = inl (below (upto_same o z d f) e)
      by (after e) (after f) = inr (inr (below (upto_before o q z (before_from_upto o q d z u f)) k))

  -- what stands between d and q does so between p and q, where d does
  pub from_later : (p q d w : K) → Between o p q d → Between o d q w → Between o p q w
  from_later p q d w (inside a b) (inside l k) = inside (o.total.trans p d w a l) k
  from_later p q d w (inside a b) (above u l) = absurd (not_both o q d u b)
  from_later p q d w (inside a b) (below u k) = absurd (not_both o q d u b)
  from_later p q d w (above v a) (inside l k) = above v (o.total.trans p d w a l)
  from_later p q d w (above v a) (above u l) = above v (o.total.trans p d w a l)
  from_later p q d w (above v a) (below u k) = below v k
  from_later p q d w (below v b) (inside l k) = below v k
  from_later p q d w (below v b) (above u l) = absurd (not_both o q d u b)
  from_later p q d w (below v b) (below u k) = absurd (not_both o q d u b)

  -- what stands between d and z stands between d and q, unless q does the former
  pub further : (d z q w : K) → Between o d z w → Between o d z q ⊎ Between o d q w
  further d z q w b = by (side o z q)
    where
      earlier : Between o d z q ⊎ Between o d q z → Between o d z q ⊎ Between o d q w
      earlier (inl c) = inl c
      earlier (inr c) = inr (through o d q z w c b)

      turned : Between o d q z ⊎ Between o d z q → Between o d z q ⊎ Between o d q z
      turned (inl c) = inr c
      turned (inr c) = inl c

      by : Side R z q → Between o d z q ⊎ Between o d q w
      by (before e) = earlier (first_of_two o d z q e)
      by (same e) = inr (subst (λ x. Between o d x w) e b)
      by (after e) = earlier (turned (first_of_two o d q z e))

  -- of two values that differ one comes first
  pub one_first : (d x y : K) → (x ≡ y → ⊥) → Between o d x y ⊎ Between o d y x
  one_first d x y other = by (side o x y)
    where
      turned : Between o d y x ⊎ Between o d x y → Between o d x y ⊎ Between o d y x
      turned (inl c) = inr c
      turned (inr c) = inl c

      by : Side R x y → Between o d x y ⊎ Between o d y x
      by (before e) = first_of_two o d x y e
      by (same e) = absurd (other e)
      by (after e) = turned (first_of_two o d y x e)

  -- ---- the nearest value before x

  module _ (xs : List K) (x : K) where
    abbrev is_earlier : K → Bool
    is_earlier y = is_before R y x

    abbrev earlier : List K
    earlier = filter is_earlier xs

    pub record IsNearest (y : K) : Type 0 where
      pub among : In y xs
      pub none_between : (w : K) → In w xs → Between o y x w → ⊥

    last_earlier : (y : K) → greatest R earlier ≡ Some y → IsNearest y
    last_earlier y e = record { among = there.0; none_between = none }
      where
        there : In y xs × (is_before R y x ≡ true)
        there = In-from_filter is_earlier y xs (greatest_is o earlier y e).among

        none : (w : K) → In w xs → Between o y x w → ⊥
        none w i (inside l k) = (greatest_is o earlier y e).none_greater w (In-filter is_earlier w xs i (ap is_lt k)) l
        none w i (above u l) = not_both o x y u (less_test (R y x) there.1)
        none w i (below u k) = not_both o x y u (less_test (R y x) there.1)

    last_of_all : (y : K) → greatest R earlier ≡ None → greatest R xs ≡ Some y → IsNearest y
    last_of_all y e f = record { among = (greatest_is o xs y f).among; none_between = none }
      where
        not_earlier : (w : K) → In w xs → R w x ≡ Less → ⊥
        not_earlier w i k = greatest_none o earlier e w (In-filter is_earlier w xs i (ap is_lt k))

        none : (w : K) → In w xs → Between o y x w → ⊥
        none w i (inside l k) = not_earlier w i k
        none w i (above u l) = (greatest_is o xs y f).none_greater w i l
        none w i (below u k) = not_earlier w i k

    pub nearest_is : (y : K) → nearest_around R xs x ≡ Some y → IsNearest y
    nearest_is y h = by (greatest R earlier) refl (greatest R xs) refl
      where
        found : (p q : Option K) → greatest R earlier ≡ p → greatest R xs ≡ q → option_or p q ≡ Some y
        found p q e f = (λ i. option_or (sym e i) (sym f i)) ∙ h

        by : (p : Option K) → greatest R earlier ≡ p → (q : Option K) → greatest R xs ≡ q → IsNearest y
        by (Some a) e q f = last_earlier y (e ∙ found (Some a) q e f)
        by None e q f = last_of_all y e (f ∙ found None q e f)

    absurd_some : (a : K) → Some a ≡ None → ⊥
    absurd_some a e = cc

    pub nearest_none : nearest_around R xs x ≡ None → (w : K) → In w xs → ⊥
    nearest_none h w i = by (greatest R earlier) refl (greatest R xs) refl
      where
        found : (p q : Option K) → greatest R earlier ≡ p → greatest R xs ≡ q → option_or p q ≡ None
        found p q e f = (λ i. option_or (sym e i) (sym f i)) ∙ h

        by : (p : Option K) → greatest R earlier ≡ p → (q : Option K) → greatest R xs ≡ q → ⊥
        by (Some a) e q f = absurd_some a (found (Some a) q e f)
        by None e q f = greatest_none o xs (f ∙ found None q e f) w i
