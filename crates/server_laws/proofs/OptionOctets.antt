-- The octets of a response that ends with an OPT record, and those that it has with options
use Rattle.std.proofs.Common.{◌≡◌, ℕ, suc, ◌+◌, ◌-◌, ◌/◌, ◌%◌, ◌≤◌, ◌<◌, Bool, true, false, eqb, ltb, ◌&&◌, List, [], ◌∷◌, ◌++◌, length, take, drop, get_or, Option, Some, None, refl, sym, ap, subst, ◌∙◌, append_assoc, arith, true≢false}
use Rattle.std.proofs.lemmas.List.{append-nil, drop-append-le, drop-take, get_or-drop, get_or-append-add, length-append, length-drop, length-take-le, take-append-drop, take-append-le, take-take}
use Rattle.std.proofs.Math.Seq.{take-append-add}
use Rattle.std.proofs.lemmas.Bool.{eqb-true, le-ltb}
use Rattle.message_options.specs.Options.{ends_with_opt, number_text, with_options}
use Rattle.server_laws.proofs.OptRead.{opt_front, opt_text}

-- eleven octets, one by one
explicit : (s : List ℕ) → length s ≡ 11
    → s ≡ get_or s 0 0 ∷ get_or s 1 0 ∷ get_or s 2 0 ∷ get_or s 3 0 ∷ get_or s 4 0 ∷ get_or s 5 0 ∷ get_or s 6 0 ∷ get_or s 7 0 ∷ get_or s 8 0
    ∷ get_or s 9 0 ∷ get_or s 10 0 ∷ []
explicit [] e = absurd (omega (arith, e))
explicit (a ∷ []) e = absurd (omega (arith, e))
explicit (a ∷ b ∷ []) e = absurd (omega (arith, e))
explicit (a ∷ b ∷ c ∷ []) e = absurd (omega (arith, e))
explicit (a ∷ b ∷ c ∷ d ∷ []) e = absurd (omega (arith, e))
explicit (a ∷ b ∷ c ∷ d ∷ f ∷ []) e = absurd (omega (arith, e))
explicit (a ∷ b ∷ c ∷ d ∷ f ∷ g ∷ []) e = absurd (omega (arith, e))
explicit (a ∷ b ∷ c ∷ d ∷ f ∷ g ∷ h ∷ []) e = absurd (omega (arith, e))
explicit (a ∷ b ∷ c ∷ d ∷ f ∷ g ∷ h ∷ i ∷ []) e = absurd (omega (arith, e))
explicit (a ∷ b ∷ c ∷ d ∷ f ∷ g ∷ h ∷ i ∷ j ∷ []) e = absurd (omega (arith, e))
explicit (a ∷ b ∷ c ∷ d ∷ f ∷ g ∷ h ∷ i ∷ j ∷ k ∷ []) e = absurd (omega (arith, e))
explicit (a ∷ b ∷ c ∷ d ∷ f ∷ g ∷ h ∷ i ∷ j ∷ k ∷ l ∷ []) e = refl
explicit (a ∷ b ∷ c ∷ d ∷ f ∷ g ∷ h ∷ i ∷ j ∷ k ∷ l ∷ m ∷ s) e = absurd (omega (arith, e))

-- both of two tests hold
left_true : (a b : Bool) → (a && b) ≡ true → a ≡ true
left_true true b e = refl
left_true false b e = absurd (true≢false (sym e))

right_true : (a b : Bool) → (a && b) ≡ true → b ≡ true
right_true true b e = e
right_true false b e = absurd (true≢false (sym e))

-- what stands at the end of octets, by the test of it
pub record Ends (s : List ℕ) (at : ℕ) : Type 0 where
  pub root : get_or s at 0 ≡ 0
  pub high : get_or s (at + 1) 0 ≡ 0
  pub low : get_or s (at + 2) 0 ≡ 41
  pub many : get_or s (at + 9) 0 ≡ 0
  pub few : get_or s (at + 10) 0 ≡ 0

tests : (s : List ℕ) (at : ℕ)
    → ((eqb (get_or s at 0) 0) && ((eqb (get_or s (at + 1) 0) 0) && ((eqb (get_or s (at + 2) 0) 41)
    && ((eqb (get_or s (at + 9) 0) 0) && (eqb (get_or s (at + 10) 0) 0))))) ≡ true
    → Ends s at
tests s at e =
    let a = eqb (get_or s at 0) 0 in
    let b = eqb (get_or s (at + 1) 0) 0 in
    let c = eqb (get_or s (at + 2) 0) 41 in
    let d = eqb (get_or s (at + 9) 0) 0 in
    let f = eqb (get_or s (at + 10) 0) 0 in
    let e₁ = right_true a (b && (c && (d && f))) e in
    let e₂ = right_true b (c && (d && f)) e₁ in
    let e₃ = right_true c (d && f) e₂ in
    record {
      root = eqb-true (get_or s at 0) 0 (left_true a (b && (c && (d && f))) e);
      high = eqb-true (get_or s (at + 1) 0) 0 (left_true b (c && (d && f)) e₁);
      low = eqb-true (get_or s (at + 2) 0) 41 (left_true c (d && f) e₂);
      many = eqb-true (get_or s (at + 9) 0) 0 (left_true d f e₃);
      few = eqb-true (get_or s (at + 10) 0) 0 (right_true d f e₃);
    }

ends_at : (s : List ℕ) → 11 ≤ length s → ends_with_opt s ≡ true → Ends s (length s - 11)
unfolding ends_with_opt
ends_at s long e =
    let t : ltb (length s) 11 ≡ false = le-ltb _ _ long in
    tests s (length s - 11) (rw t at e)

-- the last octets of a message, by its end
at_end : (s front tail : List ℕ) (k : ℕ) → 12 ≤ length front → drop 12 s ≡ drop 12 front ++ tail → get_or s (length front + k) 0 ≡ get_or tail k 0
at_end s front tail k long e =
    let f : length (drop 12 front) ≡ length front - 12 = length-drop 12 front in
    let at : length front + k ≡ 12 + (length (drop 12 front) + k) = omega (arith, f) in
    ap (λ n. get_or s n 0) at ∙ sym (get_or-drop 12 s (length (drop 12 front) + k) 0)
    ∙ ap (λ x. get_or x (length (drop 12 front) + k) 0) e ∙ get_or-append-add (drop 12 front) tail k 0

-- the OPT record at the end: its class and its TTL are some octets
pub record IsTail (tail : List ℕ) : Type 0 where
  pub c₁ : ℕ
  pub c₂ : ℕ
  pub t₁ : ℕ
  pub t₂ : ℕ
  pub t₃ : ℕ
  pub t₄ : ℕ
  pub is : tail ≡ opt_text c₁ c₂ t₁ t₂ t₃ t₄ []

pub tail_of : (s front tail : List ℕ) → 12 ≤ length front → length s ≡ length front + 11 → drop 12 s ≡ drop 12 front ++ tail → length tail ≡ 11
    → ends_with_opt s ≡ true → IsTail tail
tail_of s front tail long size body eleven ends =
    let at : length s - 11 ≡ length front = omega (arith, size) in
    let found : Ends s (length front) = subst (λ n. Ends s n) at (ends_at s (omega (arith, size)) ends) in
    let w : ℕ → ℕ = λ k. get_or tail k 0 in
    let e₀ : w 0 ≡ 0 = sym (at_end s front tail 0 long body) ∙ ap (λ n. get_or s n 0) (omega arith) ∙ found.root in
    let e₁ : w 1 ≡ 0 = sym (at_end s front tail 1 long body) ∙ found.high in
    let e₂ : w 2 ≡ 41 = sym (at_end s front tail 2 long body) ∙ found.low in
    let e₉ : w 9 ≡ 0 = sym (at_end s front tail 9 long body) ∙ found.many in
    let e₁₀ : w 10 ≡ 0 = sym (at_end s front tail 10 long body) ∙ found.few in
    record {
      c₁ = w 3;
      c₂ = w 4;
      t₁ = w 5;
      t₂ = w 6;
      t₃ = w 7;
      t₄ = w 8;
      is = explicit tail eleven
          ∙ (λ i. e₀ i ∷ e₁ i ∷ e₂ i ∷ w 3 ∷ w 4 ∷ w 5 ∷ w 6 ∷ w 7 ∷ w 8 ∷ e₉ i ∷ e₁₀ i ∷ []);
    }

-- ---- with options

-- a response with options: what it begins with, and what stands behind its header
pub record IsFuller (s front text new : List ℕ) : Type 0 where
  pub size : length new ≡ length front + length text
  pub body : drop 12 new ≡ drop 12 front ++ text
  pub top : take 12 new ≡ take 12 s

-- what options are put into
options_are : (options s : List ℕ) → take (length s - 2) s ++ (number_text (length options) ++ options) ≡ with_options options s
unfolding with_options
options_are options s = sym (append_assoc (take (length s - 2) s) (number_text (length options)) options)

fuller_text : (s front tail options : List ℕ) (c₁ c₂ t₁ t₂ t₃ t₄ : ℕ) → 12 ≤ length front → length s ≡ length front + 11
    → drop 12 s ≡ drop 12 front ++ tail → tail ≡ opt_text c₁ c₂ t₁ t₂ t₃ t₄ []
    → IsFuller s front (opt_text c₁ c₂ t₁ t₂ t₃ t₄ options) (take (length s - 2) s ++ (number_text (length options) ++ options))
fuller_text s front tail options c₁ c₂ t₁ t₂ t₃ t₄ long size body is =
    let more : List ℕ = number_text (length options) ++ options in
    let kept : List ℕ = take (length s - 2) s in
    let f : length (drop 12 front) ≡ length front - 12 = length-drop 12 front in
    let cut : length s - 2 ≡ 12 + (length (drop 12 front) + 9) = omega (arith, size, f) in
    let kept_size : length kept ≡ length s - 2 = length-take-le (length s - 2) s (omega arith) in
    let behind : drop 12 kept ≡ drop 12 front ++ opt_front c₁ c₂ t₁ t₂ t₃ t₄ =
    ap (λ n. drop 12 (take n s)) cut ∙ drop-take 12 (length (drop 12 front) + 9) s
    ∙ ap (take (length (drop 12 front) + 9)) body ∙ take-append-add (drop 12 front) tail 9 ∙ ap (λ x. drop 12 front ++ take 9 x) is in
    record {
      size = omega (arith, length-append kept more, kept_size, size, length-append (opt_front c₁ c₂ t₁ t₂ t₃ t₄) more);
      body = drop-append-le 12 kept more (omega (arith, kept_size, size)) ∙ ap (λ x. x ++ more) behind
          ∙ append_assoc (drop 12 front) (opt_front c₁ c₂ t₁ t₂ t₃ t₄) more;
      top = take-append-le 12 kept more (omega (arith, kept_size, size)) ∙ take-take 12 (length s - 2) s (omega (arith, size));
    }

pub fuller : (s front tail options : List ℕ) (c₁ c₂ t₁ t₂ t₃ t₄ : ℕ) → 12 ≤ length front → length s ≡ length front + 11
    → drop 12 s ≡ drop 12 front ++ tail → tail ≡ opt_text c₁ c₂ t₁ t₂ t₃ t₄ []
    → IsFuller s front (opt_text c₁ c₂ t₁ t₂ t₃ t₄ options) (with_options options s)
fuller s front tail options c₁ c₂ t₁ t₂ t₃ t₄ long size body is =
    subst (IsFuller s front (opt_text c₁ c₂ t₁ t₂ t₃ t₄ options)) (options_are options s)
    (fuller_text s front tail options c₁ c₂ t₁ t₂ t₃ t₄ long size body is)
