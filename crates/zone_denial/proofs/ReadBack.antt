-- Ascending lists that are read from the last element back, up to the last one that passes a test
use Rattle.std.proofs.Common.{◌≡◌, suc, ◌+◌, ◌≤◌, ◌&&◌, Bool, true, false, cond, List, [], ◌∷◌, ◌++◌, length, refl, sym, ap, ◌∙◌, subst, arith, true≢false, ◌⊎◌, inl, inr, Ordering, Less}
use Rattle.std.specs.Prelude.{Option, Some, None, filter}
use Rattle.std.specs.Option.{option_map_or}
use Rattle.std.proofs.lemmas.List.{length-append}
use Rattle.std.proofs.lemmas.List.Elements.{filter-append}
use Rattle.zone_proto.specs.Order.{is_upto, greatest}
use Rattle.zone_proto.proofs.Members.{In, In-filter, In-from_filter, In-from_append, In-append_right}
use Rattle.zone_proto.proofs.Ordering.Orders.{IsOrder, IsTop, greatest_from, greatest_is, irrefl, asym, upto_before, upto_cases, upto_same}
use Rattle.zone_denial.proofs.Ascending.{Ascends, Ascends-end, Ascends-apart, Ascends-filter}

-- tests that agree on the elements of a list keep the same
pub filter_same : {A : Type 0} (p q : A → Bool) (xs : List A) → ((x : A) → In x xs → p x ≡ q x) → filter p xs ≡ filter q xs
filter_same p q [] h = refl
filter_same p q (x ∷ xs) h = (λ i. cond (h x (inl refl) i) (x ∷ filter_same p q xs (λ y j. h y (inr j)) i) (filter_same p q xs (λ y j. h y (inr j)) i))

module _ {A : Type 0} (p : A → Bool) where
  pub filter_all : (xs : List A) → ((y : A) → In y xs → p y ≡ true) → filter p xs ≡ xs
  filter_all [] h = refl
  filter_all (x ∷ xs) h = ap (λ b. cond b (x ∷ filter p xs) (filter p xs)) (h x (inl refl)) ∙ ap (λ ys. x ∷ ys) (filter_all xs (λ y i. h y (inr i)))

  pub filter_none : (xs : List A) → ((y : A) → In y xs → p y ≡ false) → filter p xs ≡ []
  filter_none [] h = refl
  filter_none (x ∷ xs) h = ap (λ b. cond b (x ∷ filter p xs) (filter p xs)) (h x (inl refl)) ∙ filter_none xs (λ y i. h y (inr i))

  pub filter_twice : (q : A → Bool) (xs : List A) → filter q (filter p xs) ≡ filter (λ x. p x && q x) xs
  filter_twice q [] = refl
  filter_twice q (x ∷ xs) = by (p x) (filter_twice q xs)
    where
      by : (b : Bool) → filter q (filter p xs) ≡ filter (λ y. p y && q y) xs
          → filter q (cond b (x ∷ filter p xs) (filter p xs)) ≡ cond (b && q x) (x ∷ filter (λ y. p y && q y) xs) (filter (λ y. p y && q y) xs)
      by true ih = ap (λ ys. cond (q x) (x ∷ ys) ys) ih
      by false ih = ih

module _ {K : Type 0} {R : K → K → Ordering} (o : IsOrder R) where
  -- the last element is the greatest
  pub greatest_last : (front : List K) (x : K) → Ascends R (front ++ x ∷ []) → greatest R (front ++ x ∷ []) ≡ Some x
  greatest_last front x a = greatest_from o (front ++ x ∷ []) x (record { among = In-append_right x front (x ∷ []) (inl refl); none_greater = λ y i. by y (In-from_append y front (x ∷ []) i) })
    where
      by : (y : K) → In y front ⊎ In y (x ∷ []) → R x y ≡ Less → ⊥
      by y (inl i) l = asym o x y l (Ascends-apart R front (x ∷ []) a y x i (inl refl))
      by y (inr (inl e)) l = irrefl o x (ap (R x) e ∙ l)
      by y (inr (inr i)) l = i

  -- no two elements of an ascending list are one value
  one_value : (x : K) (xs : List K) → Ascends R xs → ((y : K) → In y xs → y ≡ x) → length xs ≤ 1
  one_value x [] a h = omega arith
  one_value x (y ∷ []) a h = omega arith
  one_value x (y ∷ z ∷ xs) a h = absurd (irrefl o x (ap (λ v. R v x) (sym (h y (inl refl))) ∙ ap (R y) (sym (h z (inr (inl refl)))) ∙ a.0 z (inl refl)))

  module _ (p : K → Bool) where
    -- the elements from the greatest one that passes on, or all where none does
    abbrev pub from_greatest : List K → List K
    from_greatest xs = filter (λ y. option_map_or (λ g. is_upto R g y) (greatest R (filter p xs)) true) xs

    -- nothing passes
    abbrev pub NonePass : List K → Type 0
    NonePass xs = (y : K) → In y xs → p y ≡ false

    pub none_greatest : (xs : List K) → NonePass xs → greatest R (filter p xs) ≡ None
    none_greatest xs none = ap (greatest R) (filter_none p xs none)

    pub all_read : (xs : List K) → NonePass xs → from_greatest xs ≡ xs
    all_read xs none =
        ap (λ g. filter (λ y. option_map_or (λ g. is_upto R g y) g true) xs) (none_greatest xs none)
        ∙ filter_all (λ _. true) xs (λ y i. refl)

    module _ (front back : List K) (x : K) (a : Ascends R (front ++ x ∷ back)) (none : NonePass back) where
      abbrev whole : List K
      whole = front ++ x ∷ back

      later : (y : K) → In y (x ∷ back) → is_upto R x y ≡ true
      later y (inl e) = upto_same o x y e
      later y (inr i) = upto_before o x y ((Ascends-end R front (x ∷ back) a).0 y i)

      pub found_greatest : p x ≡ true → greatest R (filter p whole) ≡ Some x
      found_greatest passes = greatest_from o (filter p whole) x (record {
        among = In-filter p x whole (In-append_right x front (x ∷ back) (inl refl)) passes;
        none_greater = λ y i. let r = In-from_filter p y whole i in by y r.1 (In-from_append y front (x ∷ back) r.0);
      })
        where
          by : (y : K) → p y ≡ true → In y front ⊎ In y (x ∷ back) → R x y ≡ Less → ⊥
          by y h (inl i) l = asym o x y l (Ascends-apart R front (x ∷ back) a y x i (inl refl))
          by y h (inr (inl e)) l = irrefl o x (ap (R x) e ∙ l)
          by y h (inr (inr i)) l = true≢false (sym h ∙ none y i)

      -- what was read is what stands from the one that passes on
      pub found_read : p x ≡ true → from_greatest whole ≡ x ∷ back
      found_read passes =
          ap (λ g. filter (λ y. option_map_or (λ g. is_upto R g y) g true) whole) (found_greatest passes)
          ∙ filter-append (is_upto R x) front (x ∷ back)
          ∙ ap (λ ys. ys ++ filter (is_upto R x) (x ∷ back)) (filter_none (is_upto R x) front earlier)
          ∙ filter_all (is_upto R x) (x ∷ back) later
        where
          earlier : (y : K) → In y front → is_upto R x y ≡ false
          earlier y i = by (is_upto R x y) refl
            where
              less : R y x ≡ Less
              less = Ascends-apart R front (x ∷ back) a y x i (inl refl)

              cases : (x ≡ y) ⊎ (R x y ≡ Less) → ⊥
              cases (inl e) = irrefl o y (ap (R y) (sym e) ∙ less)
              cases (inr l) = asym o x y l less

              by : (b : Bool) → is_upto R x y ≡ b → is_upto R x y ≡ false
              by true e = absurd (cases (upto_cases o x y e))
              by false e = e

      -- and no more than that, whether x passes or not
      pub read_at_most : suc (length back) ≤ length (from_greatest whole)
      read_at_most = by (greatest R (filter p whole)) refl
        where
          kept : (q : K → Bool) → ((y : K) → In y (x ∷ back) → q y ≡ true) → suc (length back) ≤ length (filter q whole)
          kept q h =
              let split : length (filter q whole) ≡ length (filter q front) + suc (length back) =
              ap length (filter-append q front (x ∷ back) ∙ ap (λ ys. filter q front ++ ys) (filter_all q (x ∷ back) h)) ∙ length-append (filter q front) (x ∷ back) in
              omega (arith, split)

          below : (g : K) → p g ≡ true → In g front ⊎ In g (x ∷ back) → (y : K) → In y (x ∷ back) → is_upto R g y ≡ true
          below g h (inl i) y j = upto_before o g y (Ascends-apart R front (x ∷ back) a g y i j)
          below g h (inr (inl e)) y j = ap (λ v. is_upto R v y) (sym e) ∙ later y j
          below g h (inr (inr i)) y j = absurd (true≢false (sym h ∙ none g i))

          by : (g : Option K) → greatest R (filter p whole) ≡ g → suc (length back) ≤ length (filter (λ y. option_map_or (λ g. is_upto R g y) (greatest R (filter p whole)) true) whole)
          by None e = subst (λ g. suc (length back) ≤ length (filter (λ y. option_map_or (λ g. is_upto R g y) g true) whole)) (sym e) (kept (λ _. true) (λ y i. refl))
          by (Some g) e =
              let r = In-from_filter p g whole (greatest_is o (filter p whole) g e).among in
              subst (λ g. suc (length back) ≤ length (filter (λ y. option_map_or (λ g. is_upto R g y) g true) whole)) (sym e) (kept (is_upto R g) (below g r.1 (In-from_append g front (x ∷ back) r.0)))

    -- where the greatest of all passes, there is no other from it on
    pub top_read : (xs : List K) (g : K) → Ascends R xs → IsTop o xs g → p g ≡ true → length (from_greatest xs) ≤ 1
    top_read xs g a top passes =
        subst (λ g. length (filter (λ y. option_map_or (λ g. is_upto R g y) g true) xs) ≤ 1) (sym greatest_is_g)
        (one_value g (filter (is_upto R g) xs) (Ascends-filter R (is_upto R g) xs a) (λ y i. let r = In-from_filter (is_upto R g) y xs i in same y r.0 (upto_cases o g y r.1)))
      where
        greatest_is_g : greatest R (filter p xs) ≡ Some g
        greatest_is_g = greatest_from o (filter p xs) g (record { among = In-filter p g xs top.among passes; none_greater = λ y i. top.none_greater y (In-from_filter p y xs i).0 })

        same : (y : K) → In y xs → (g ≡ y) ⊎ (R g y ≡ Less) → y ≡ g
        same y i (inl e) = sym e
        same y i (inr l) = absurd (top.none_greater y i l)
