-- The labels that two names share at their ends are as many as the labels that end where the octets of both begin alike.
use Rattle.std.proofs.Common.{◌≡◌, ℕ, suc, ◌+◌, ◌-◌, ◌<◌, ◌≤◌, ◌⊎◌, inl, inr, List, [], ◌∷◌, ◌++◌, length, map, take, drop, get_or, reverse, Bool, true, false, cond, refl, sym, ap, ◌∙◌, arith, subst, Bor}
use Rattle.std.proofs.lemmas.List.{append-nil, reverse-append, reverse-reverse, length-append, length-reverse, length-drop, take-append-drop, drop_more, drop_all, drop-drop}
use Rattle.std.proofs.Math.Seq.{take-append_seam, drop-append_seam}
use Rattle.std.proofs.lemmas.Bool.{eqb-true, eqb-false}
use Rattle.std.proofs.lemmas.Bool.Decides.{nat_tests}
use Rattle.std.specs.Prelude.{◌==◌, Option, Some, None, MatchOption}
use Rattle.std.specs.List.{AllByRecursion, drop-map}
use Rattle.zone_proto.specs.Names.{Name, Label, lower, lower_label, IsAtOrAbove, SharesLabels}
use Rattle.zone_proto.specs.Packing.{escaped, order_octets, shared_ends}
use Rattle.zone_proto.proofs.Names.Escapes.{escaped_clear, label_exact, reverse_map}
use Rattle.zone_proto.proofs.Names.FirstLabels.{le_cases}
use Rattle.zone_proto.proofs.Names.Packings.{from_root, packing_from_root}

-- ---- octet by octet

same_test : (a b : ℕ) → a ≡ b → (a == b) ≡ true
same_test a b e = grind (arith, nat_tests, e)

other_test : (a b : ℕ) → (a ≡ b → ⊥) → (a == b) ≡ false
other_test a b n = grind (arith, nat_tests, n)

-- one more octet that is the same
pub shared_more : (s t : List ℕ) (i : ℕ) → i < length s → i < length t → get_or s i 0 ≡ get_or t i 0
    → shared_ends (drop i s) (drop i t)
    ≡ cond (get_or s i 0 == 0) (1 + shared_ends (drop (i + 1) s) (drop (i + 1) t)) (shared_ends (drop (i + 1) s) (drop (i + 1) t))
shared_more s t i in_s in_t e =
    (λ j. shared_ends (drop_more s i 0 in_s j) (drop_more t i 0 in_t j))
    ∙ ap (λ b. cond b (cond (get_or s i 0 == 0) (1 + shared_ends (drop (i + 1) s) (drop (i + 1) t)) (shared_ends (drop (i + 1) s) (drop (i + 1) t))) 0) (same_test _ _ e)

-- no more where one ends, or where they differ
pub shared_over : (s t : List ℕ) (i : ℕ) → length s ≤ i → shared_ends (drop i s) (drop i t) ≡ 0
shared_over s t i over = ap (λ z. shared_ends z (drop i t)) (drop_all i s over)

none_right : (s : List ℕ) → shared_ends s [] ≡ 0
none_right [] = refl
none_right (a ∷ s) = refl

pub shared_over_right : (s t : List ℕ) (i : ℕ) → length t ≤ i → shared_ends (drop i s) (drop i t) ≡ 0
shared_over_right s t i over = ap (shared_ends (drop i s)) (drop_all i t over) ∙ none_right (drop i s)

pub shared_differ : (s t : List ℕ) (i : ℕ) → i < length s → i < length t → (get_or s i 0 ≡ get_or t i 0 → ⊥) → shared_ends (drop i s) (drop i t) ≡ 0
shared_differ s t i in_s in_t n =
    (λ j. shared_ends (drop_more s i 0 in_s j) (drop_more t i 0 in_t j))
    ∙ ap (λ b. cond b (cond (get_or s i 0 == 0) (1 + shared_ends (drop (i + 1) s) (drop (i + 1) t)) (shared_ends (drop (i + 1) s) (drop (i + 1) t))) 0) (other_test _ _ n)

-- ---- label by label

-- labels with their ends, before what follows: the same ones, or others
abbrev Heads : (e f s t : List ℕ) → Type 0
Heads e f s t =
    ((e ≡ f) × (shared_ends (e ++ 0 ∷ s) (f ++ 0 ∷ t) ≡ 1 + shared_ends s t))
    ⊎ ((e ≡ f → ⊥) × (shared_ends (e ++ 0 ∷ s) (f ++ 0 ∷ t) ≡ 0))

heads_more : (a b : ℕ) (e f s t : List ℕ) (x : Bool) → (a == b) ≡ x → 0 < a → Heads e f s t → Heads (a ∷ e) (b ∷ f) s t
heads_more a b e f s t true x some (inl (same, count)) =
    inl (
      (λ i. eqb-true a b x i ∷ same i),
      ap (λ z. cond z (cond (a == 0) (1 + shared_ends (e ++ 0 ∷ s) (f ++ 0 ∷ t)) (shared_ends (e ++ 0 ∷ s) (f ++ 0 ∷ t))) 0) x
          ∙ ap (λ z. cond z (1 + shared_ends (e ++ 0 ∷ s) (f ++ 0 ∷ t)) (shared_ends (e ++ 0 ∷ s) (f ++ 0 ∷ t))) (other_test a 0 (λ n. omega (arith, n, some)))
          ∙ count,
    )
heads_more a b e f s t true x some (inr (differ, count)) =
    inr (
      (λ h. differ (cc)),
      ap (λ z. cond z (cond (a == 0) (1 + shared_ends (e ++ 0 ∷ s) (f ++ 0 ∷ t)) (shared_ends (e ++ 0 ∷ s) (f ++ 0 ∷ t))) 0) x
          ∙ ap (λ z. cond z (1 + shared_ends (e ++ 0 ∷ s) (f ++ 0 ∷ t)) (shared_ends (e ++ 0 ∷ s) (f ++ 0 ∷ t))) (other_test a 0 (λ n. omega (arith, n, some)))
          ∙ count,
    )
heads_more a b e f s t false x some h =
    inr (
      (λ h. let first : a ≡ b = cc in eqb-false a b x first),
      ap (λ z. cond z (cond (a == 0) (1 + shared_ends (e ++ 0 ∷ s) (f ++ 0 ∷ t)) (shared_ends (e ++ 0 ∷ s) (f ++ 0 ∷ t))) 0) x,
    )

heads : (e f s t : List ℕ) → AllByRecursion (λ b. 0 < b) e → AllByRecursion (λ b. 0 < b) f → Heads e f s t
heads [] [] s t h g = inl (refl, refl)
heads [] (b ∷ f) s t h g = inr (
  (λ e. cc),
  ap (λ z. cond z (1 + shared_ends s (f ++ 0 ∷ t)) 0) (other_test 0 b (λ e. omega (arith, e, g.0))),
)
heads (a ∷ e) [] s t h g = inr (
  (λ e. cc),
  ap (λ z. cond z (cond (a == 0) (1 + shared_ends (e ++ 0 ∷ s) t) (shared_ends (e ++ 0 ∷ s) t)) 0) (other_test a 0 (λ e. omega (arith, e, h.0))),
)
heads (a ∷ e) (b ∷ f) s t h g = heads_more a b e f s t (a == b) refl h.0 (heads e f s t h.1 g.1)

-- so many labels are at the start of both lists, and no more
record IsCommonFront (xs ys : List Label) (count : ℕ) : Type 0 where
  within : count ≤ length xs
  same : take count xs ≡ take count ys
  most : (p s t : List Label) → xs ≡ p ++ s → ys ≡ p ++ t → length p ≤ count

abbrev octets_of_root : List Label → List ℕ
octets_of_root xs = from_root (map escaped xs)

-- the rest of what two lists begin with, both
more_front : (x y : Label) (xs ys : List Label) (count : ℕ) → IsCommonFront xs ys count
    → (p s t : List Label) → x ∷ xs ≡ p ++ s → y ∷ ys ≡ p ++ t → length p ≤ 1 + count
more_front x y xs ys count rest [] s t e f = omega arith
more_front x y xs ys count rest (q ∷ p) s t e f =
    let left : xs ≡ p ++ s = cc in
    let right : ys ≡ p ++ t = cc in
    omega (arith, rest.most p s t left right)

no_front : (x y : Label) (xs ys : List Label) → (escaped x ≡ escaped y → ⊥)
    → (p s t : List Label) → x ∷ xs ≡ p ++ s → y ∷ ys ≡ p ++ t → length p ≤ 0
no_front x y xs ys n [] s t e f = omega arith
no_front x y xs ys n (q ∷ p) s t e f =
    let left : x ≡ q = cc in
    let right : y ≡ q = cc in
    absurd (n (ap escaped (left ∙ sym right)))

front_step : (x y : Label) (xs ys : List Label) (count whole : ℕ) → IsCommonFront xs ys count
    → ((escaped x ≡ escaped y) × (whole ≡ 1 + count)) ⊎ ((escaped x ≡ escaped y → ⊥) × (whole ≡ 0))
    → IsCommonFront (x ∷ xs) (y ∷ ys) whole
front_step x y xs ys count whole rest (inl (same, is)) =
    let first : x ≡ y = label_exact x y same in
    let up : whole ≡ suc count = omega (arith, is) in
    record {
      within = omega (arith, is, rest.within);
      same = ap (λ k. take k (x ∷ xs)) up ∙ (λ i. first i ∷ rest.same i) ∙ sym (ap (λ k. take k (y ∷ ys)) up);
      most = λ p s t e f. omega (arith, is, more_front x y xs ys count rest p s t e f);
    }
front_step x y xs ys count whole rest (inr (differ, is)) = record {
  within = omega (arith, is);
  same = ap (λ k. take k (x ∷ xs)) is ∙ sym (ap (λ k. take k (y ∷ ys)) is);
  most = λ p s t e f. omega (arith, is, no_front x y xs ys differ p s t e f);
}

common_front : (xs ys : List Label) → IsCommonFront xs ys (shared_ends (octets_of_root xs) (octets_of_root ys))
common_front [] ys = record {
  within = omega arith;
  same = refl;
  most = λ p s t e f. omega (arith, ap length e, length-append p s);
}
common_front (x ∷ xs) [] =
    let none : shared_ends (octets_of_root (x ∷ xs)) [] ≡ 0 = none_right (octets_of_root (x ∷ xs)) in
    record {
      within = omega (arith, none);
      same = ap (λ k. take k (x ∷ xs)) none ∙ sym (ap (λ k. take k []) none);
      most = λ p s t e f. omega (arith, ap length f, length-append p t);
    }
common_front (x ∷ xs) (y ∷ ys) =
    front_step x y xs ys (shared_ends (octets_of_root xs) (octets_of_root ys)) (shared_ends (octets_of_root (x ∷ xs)) (octets_of_root (y ∷ ys)))
    (common_front xs ys)
    (heads (escaped x) (escaped y) (octets_of_root xs) (octets_of_root ys) (escaped_clear x) (escaped_clear y))

-- ---- names

-- the first of the reversed labels are the last labels
first_reversed : (n : Name) (k : ℕ) → k ≤ length n → take k (reverse n) ≡ reverse (drop (length n - k) n)
first_reversed n k h =
    let end : Name = drop (length n - k) n in
    let size : length (reverse end) ≡ k = omega (arith, length-reverse end, length-drop (length n - k) n, h) in
    ap (λ z. take k (reverse z)) (sym (take-append-drop (length n - k) n))
    ∙ ap (take k) (reverse-append (take (length n - k) n) end)
    ∙ ap (λ j. take j (reverse end ++ reverse (take (length n - k) n))) (sym size)
    ∙ take-append_seam (reverse end) (reverse (take (length n - k) n))

octets_from_root : (n : Name) → order_octets n ≡ octets_of_root (reverse n)
octets_from_root n = packing_from_root (map escaped n) ∙ ap from_root (reverse_map escaped n)

pub shares : (n m : Name) (count : ℕ) → count ≡ shared_ends (order_octets n) (order_octets m) → SharesLabels n m count
shares n m count e =
    let front : IsCommonFront (reverse n) (reverse m) count =
    subst (IsCommonFront (reverse n) (reverse m)) (sym (e ∙ λ i. shared_ends (octets_from_root n i) (octets_from_root m i))) (common_front (reverse n) (reverse m)) in
    let within : count ≤ length n = omega (arith, front.within, length-reverse n) in
    let last : Name = drop (length n - count) n in
    let start : take count (reverse m) ≡ reverse last = sym front.same ∙ first_reversed n count within in
    let whole : m ≡ reverse (drop count (reverse m)) ++ last =
    sym (reverse-reverse m) ∙ ap reverse (sym (take-append-drop count (reverse m)))
    ∙ reverse-append (take count (reverse m)) (drop count (reverse m))
    ∙ ap (λ z. reverse (drop count (reverse m)) ++ z) (ap reverse start ∙ reverse-reverse last) in
    record {
      within = within;
      shared = (reverse (drop count (reverse m)), whole);
      most = λ a up over.
          omega (
            arith,
            length-reverse a,
            front.most (reverse a) (reverse up.0) (reverse over.0)
                (ap reverse up.1 ∙ reverse-append up.0 a) (ap reverse over.1 ∙ reverse-append over.0 a),
          );
    }

-- ---- by the tree of names: the first labels are taken away until the rest is above the other name

lower_end : (a : Name) (k : ℕ) → lower a ≡ a → lower (drop k a) ≡ drop k a
lower_end a k e = sym (drop-map lower_label k a) ∙ ap (drop k) e

-- an end of the name that is as long as another one is this
same_end : (a n rest : Name) → IsAtOrAbove n a → rest ≡ drop (length a - length rest) a → length n ≡ length rest → n ≡ rest
same_end a n rest w e size =
    sym (
    e ∙ (λ i. drop (length a - sym size i) a)
    ∙ ap (λ k. drop k a) (omega (arith, ap length w.1, length-append w.0 n))
    ∙ ap (drop (length w.0)) w.1
    ∙ drop-append_seam w.0 n
    )

-- an end of a name, where no longer one is at or above another name
pub record IsLeftOf (a b rest : Name) : Type 0 where
  pub within : length rest ≤ length a
  pub last : rest ≡ drop (length a - length rest) a
  pub most : (n : Name) → IsAtOrAbove n a → IsAtOrAbove n b → length n ≤ length rest

none_less : (k : ℕ) → k - k ≡ 0
none_less k = omega arith

pub all_left : (a b : Name) → IsLeftOf a b a
all_left a b = record {
  within = omega arith;
  last = sym (ap (λ k. drop k a) (none_less (length a)));
  most = λ n w v. omega (arith, ap length w.1, length-append w.0 n);
}

shorter : (a b rest n : Name) → lower a ≡ a → lower b ≡ b → (IsAtOrAbove (lower rest) (lower b) → ⊥) → IsLeftOf a b rest
    → IsAtOrAbove n a → IsAtOrAbove n b → length n < length rest
shorter a b rest n low_a low_b differ h w v = by (le_cases (length n) (length rest) (h.most n w v))
  where
    by : (length n ≡ length rest) ⊎ (length n < length rest) → length n < length rest
    by (inr less) = less
    by (inl size) =
        let same : n ≡ rest = same_end a n rest w h.last size in
        let low : lower rest ≡ rest = ap lower h.last ∙ lower_end a (length a - length rest) low_a ∙ sym h.last in
        absurd (differ (subst (λ z. IsAtOrAbove z (lower b)) (same ∙ sym low) (subst (IsAtOrAbove n) (sym low_b) v)))

pub one_less : (a b rest next : Name) (r : Option (Bor (List ℕ))) → lower a ≡ a → lower b ≡ b
    → (IsAtOrAbove (lower rest) (lower b) → ⊥)
    → IsLeftOf a b rest → MatchOption r ((rest ≡ []) × (next ≡ [])) (λ x. rest ≡ x.now ∷ next) → IsLeftOf a b next × (length next < length rest)
one_less a b rest next None low_a low_b differ h (none, more) =
    absurd (differ (subst (λ z. IsAtOrAbove (lower z) (lower b)) (sym none) (lower b, sym (append-nil (lower b)))))
one_less a b rest next (Some x) low_a low_b differ h e =
    let size : length rest ≡ suc (length next) = ap length e in (
      record {
        within = omega (arith, h.within, size);
        last =
            sym (ap (drop 1) e) ∙ ap (drop 1) h.last ∙ drop-drop 1 (length a - length rest) a
            ∙ ap (λ k. drop k a) (omega (arith, h.within, size));
        most = λ n w v. omega (arith, size, shorter a b rest n low_a low_b differ h w v);
      },
      omega (arith, size),
    )

pub left_shares : (a b rest : Name) (count : ℕ) → lower a ≡ a → lower b ≡ b → IsAtOrAbove (lower rest) (lower b) → IsLeftOf a b rest
    → count ≡ length rest → SharesLabels a b count
left_shares a b rest count low_a low_b up h size =
    let low : lower rest ≡ rest = ap lower h.last ∙ lower_end a (length a - length rest) low_a ∙ sym h.last in
    let last : rest ≡ drop (length a - count) a = h.last ∙ λ i. drop (length a - sym size i) a in
    record {
      within = omega (arith, size, h.within);
      shared = subst (λ z. IsAtOrAbove z b) last (subst (λ z. IsAtOrAbove z b) low (subst (IsAtOrAbove (lower rest)) low_b up));
      most = λ n w v. omega (arith, size, h.most n w v);
    }
