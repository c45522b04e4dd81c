-- Numbers in digits, digit by digit
use Rattle.std.proofs.Common.{◌≡◌, ℕ, zero, suc, ◌+◌, ◌-◌, ◌/◌, ◌%◌, ◌<◌, ◌≤◌, List, [], ◌∷◌, ◌++◌, Bool, true, false, refl, sym, ap, ◌∙◌, append_assoc, arith}
use Rattle.std.specs.Prelude.{◌==◌, ◌&&◌, nat_le, nat_lt, if◌then◌else◌}
use Rattle.std.proofs.lemmas.List.{append-nil}
use Rattle.std.proofs.lemmas.Bool.{ltb-true, ltb-false}
use Rattle.zone_texts.specs.Patterns.{digit, digits, nibbles, zeros}

-- ---- zeros

pub zeros_none : (old : List ℕ) (n : ℕ) → n ≡ 0 → old ≡ old ++ zeros n
unfolding zeros
zeros_none old n e = rw e (sym (append-nil old))

pub zeros_more : (old : List ℕ) (n : ℕ) → 0 < n → (old ++ 48 ∷ []) ++ zeros (n - 1) ≡ old ++ zeros n
unfolding zeros
zeros_more old zero h = absurd (omega arith)
zeros_more old (suc n) h =
    let e : suc n - 1 ≡ n = omega arith in
    rw e (append_assoc old (48 ∷ []) (zeros n))

pub ruleset zeros_steps = (zeros_none, zeros_more)

-- ---- digits

pub digits_last : (old : List ℕ) (capital : Bool) (base most n : ℕ) → n < base → old ++ digit capital (n % base) ∷ [] ≡ old ++ digits capital base most n
unfolding digits
digits_last old capital base zero n h = refl
digits_last old capital base (suc most) n h = by (nat_lt n base) refl
  where
    by : (b : Bool) → nat_lt n base ≡ b → old ++ digit capital (n % base) ∷ [] ≡ old ++ (if b then digit capital (n % base) ∷ [] else digits capital base most (n / base) ++ digit capital (n % base) ∷ [])
    by true e = refl
    by false e = absurd (omega (arith, ltb-false n base e))

pub digits_at_end : (old : List ℕ) (capital : Bool) (base most n : ℕ) → most ≡ 0 → old ++ digit capital (n % base) ∷ [] ≡ old ++ digits capital base most n
unfolding digits
digits_at_end old capital base most n e = rw e refl

pub digits_more : (old : List ℕ) (capital : Bool) (base most n : ℕ) → 0 < most → base ≤ n
    → (old ++ digits capital base (most - 1) (n / base)) ++ digit capital (n % base) ∷ [] ≡ old ++ digits capital base most n
unfolding digits
digits_more old capital base zero n h k = absurd (omega arith)
digits_more old capital base (suc most) n h k =
    let e : suc most - 1 ≡ most = omega arith in
    rw e (by (nat_lt n base) refl)
  where
    by : (b : Bool) → nat_lt n base ≡ b → (old ++ digits capital base most (n / base)) ++ digit capital (n % base) ∷ [] ≡ old ++ (if b then digit capital (n % base) ∷ [] else digits capital base most (n / base) ++ digit capital (n % base) ∷ [])
    by true e = absurd (omega (arith, ltb-true n base e))
    by false e = append_assoc old (digits capital base most (n / base)) (digit capital (n % base) ∷ [])

pub ruleset digits_steps = (digits_last, digits_at_end, digits_more)

-- ---- nibbles

pub nibbles_none : (old : List ℕ) (capital : Bool) (most n width : ℕ) → most ≡ 0 → old ≡ old ++ nibbles capital most n width
unfolding nibbles
nibbles_none old capital most n width e = rw e (sym (append-nil old))

abbrev nibbles_at : Bool → (most n width : ℕ) → (last narrow : Bool) → List ℕ
nibbles_at capital most n width last narrow = digit capital (n % 16) ∷ (if last then [] else 46 ∷ (if narrow then [] else nibbles capital (most - 1) (n / 16) (width - 2)))

nibbles_are : (capital : Bool) (most n width : ℕ) → 0 < most → nibbles capital most n width ≡ nibbles_at capital most n width ((n / 16 == 0) && nat_le width 1) ((n / 16 == 0) && nat_le width 2)
unfolding nibbles
nibbles_are capital zero n width h = absurd (omega arith)
nibbles_are capital (suc most) n width h =
    let e : suc most - 1 ≡ most = omega arith in
    rw e refl

pub nibbles_one : (old : List ℕ) (capital : Bool) (most n width : ℕ) → 0 < most → ((n / 16 == 0) && nat_le width 1) ≡ true
    → old ++ digit capital (n % 16) ∷ [] ≡ old ++ nibbles capital most n width
nibbles_one old capital most n width h e = rw (nibbles_are capital most n width h, e) refl

pub nibbles_dot : (old : List ℕ) (capital : Bool) (most n width : ℕ) → 0 < most → ((n / 16 == 0) && nat_le width 1) ≡ false → ((n / 16 == 0) && nat_le width 2) ≡ true
    → (old ++ digit capital (n % 16) ∷ []) ++ 46 ∷ [] ≡ old ++ nibbles capital most n width
nibbles_dot old capital most n width h e f = rw (nibbles_are capital most n width h, e, f) (append_assoc old (digit capital (n % 16) ∷ []) (46 ∷ []))

pub nibbles_more : (old : List ℕ) (capital : Bool) (most n width : ℕ) → 0 < most → ((n / 16 == 0) && nat_le width 1) ≡ false → ((n / 16 == 0) && nat_le width 2) ≡ false
    → ((old ++ digit capital (n % 16) ∷ []) ++ 46 ∷ []) ++ nibbles capital (most - 1) (n / 16) (width - 2) ≡ old ++ nibbles capital most n width
nibbles_more old capital most n width h e f = rw (nibbles_are capital most n width h, e, f)
    (append_assoc (old ++ digit capital (n % 16) ∷ []) (46 ∷ []) (nibbles capital (most - 1) (n / 16) (width - 2))
    ∙ append_assoc old (digit capital (n % 16) ∷ []) (46 ∷ nibbles capital (most - 1) (n / 16) (width - 2)))

pub ruleset nibbles_steps = (nibbles_none, nibbles_one, nibbles_dot, nibbles_more)
