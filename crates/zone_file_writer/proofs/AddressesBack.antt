-- Printed IPv4 addresses are read back.
use Rattle.std.proofs.Common.{◌≡◌, ◌≤◌, ◌<◌, ℕ, ◌+◌, ◌/◌, ◌%◌, ◌==◌, List, [], ◌∷◌, length, Bool, true, false, cond, Some, refl, ap, ◌∙◌, arith, length-append}
use Rattle.std.specs.Prelude.{nat_lt, sum_by}
use Rattle.std.specs.Fmt.{decimal}
use Rattle.std.specs.List.{AllByRecursion}
use Rattle.std.proofs.lemmas.Bool.Decides.{leb_tells, nat_tests}
use Rattle.std.proofs.lemmas.Fmt.{decimal_digit, decimal_step}
use Rattle.line_text.specs.Parts.{joined}
use Rattle.line_text.specs.Addresses.{ipv4_text}
use Rattle.line_text.proofs.RoundTrips.{ipv4_read}
use Rattle.zone_tokens.specs.Addresses.{ipv4_of_word, ipv4_width, width}

length_step : (n : ℕ) → 10 ≤ n → n < 1000 → length (decimal n) ≡ length (decimal (n / 10)) + 1
length_step n h k = ap length (decimal_step n h (omega arith)) ∙ length-append (decimal (n / 10)) ((48 + n % 10) ∷ [])

length_one : (n : ℕ) → n < 10 → length (decimal n) ≡ 1
length_one n h = ap length (decimal_digit n h)

digit_count : (n : ℕ) → n < 256 → length (decimal n) ≡ width n
digit_count n small = by (nat_lt n 10) refl (nat_lt n 100) refl
  where
    by : (a : Bool) → nat_lt n 10 ≡ a → (b : Bool) → nat_lt n 100 ≡ b → length (decimal n) ≡ cond a 1 (cond b 2 3)
    by true e b f = length_one n (grind (arith, leb_tells))
    by false e true f =
        let low : 10 ≤ n = grind (arith, leb_tells) in
        let high : n < 100 = grind (arith, leb_tells) in
        let one : length (decimal (n / 10)) ≡ 1 = length_one (n / 10) (omega arith) in
        omega (arith, length_step n low (omega arith))
    by false e false f =
        let high : 100 ≤ n = grind (arith, leb_tells) in
        let one : length (decimal (n / 10 / 10)) ≡ 1 = length_one (n / 10 / 10) (omega arith) in
        omega (arith, length_step n (omega arith) (omega arith), length_step (n / 10) (omega arith) (omega arith))

joined_length : (a b c d : List ℕ) → length (joined 46 (a ∷ b ∷ c ∷ d ∷ [])) ≡ 3 + (length a + (length b + (length c + length d)))
joined_length a b c d =
    omega (arith, length-append a (46 ∷ joined 46 (b ∷ c ∷ d ∷ [])), length-append b (46 ∷ joined 46 (c ∷ d ∷ [])), length-append c (46 ∷ d))

four_width : (a b c d : ℕ) → a < 256 → b < 256 → c < 256 → d < 256 → length (ipv4_text (a ∷ b ∷ c ∷ d ∷ [])) ≡ ipv4_width (a ∷ b ∷ c ∷ d ∷ [])
four_width a b c d h i j k =
    let total : sum_by width (a ∷ b ∷ c ∷ d ∷ []) ≡ width a + (width b + (width c + width d)) = grind arith in
    omega (arith, joined_length (decimal a) (decimal b) (decimal c) (decimal d), digit_count a h, digit_count b i, digit_count c j, digit_count d k, total)

width_of : (bs : List ℕ) → length bs ≡ 4 → AllByRecursion (λ b. b < 256) bs → length (ipv4_text bs) ≡ ipv4_width bs
width_of [] l h = absurd (omega arith)
width_of (a ∷ []) l h = absurd (omega arith)
width_of (a ∷ b ∷ []) l h = absurd (omega arith)
width_of (a ∷ b ∷ c ∷ []) l h = absurd (omega arith)
width_of (a ∷ b ∷ c ∷ d ∷ []) l h = four_width a b c d h.0 h.1.0 h.1.1.0 h.1.1.1.0
width_of (a ∷ b ∷ c ∷ d ∷ e ∷ bs) l h = absurd (omega arith)

same : (n : ℕ) → (n == n) ≡ true
same n = grind (arith, nat_tests)

pub ipv4_back : (bs : List ℕ) → length bs ≡ 4 → AllByRecursion (λ b. b < 256) bs → ipv4_of_word (ipv4_text bs) ≡ Some bs
ipv4_back bs l h = rw (ipv4_read bs l h, width_of bs l h, same (ipv4_width bs)) refl
