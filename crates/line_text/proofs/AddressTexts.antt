-- The texts of addresses by their octets
use Rattle.std.proofs.Common.{◌≡◌, ◌≤◌, ◌<◌, ℕ, List, [], ◌∷◌, ◌++◌, ◌+◌, ◌/◌, ◌%◌, length, get_or, refl, ap, ◌∙◌, arith}
use Rattle.std.proofs.lemmas.Fmt.{decimal_digit, decimal_step}
use Rattle.std.specs.Fmt.{decimal}
use Rattle.line_text.specs.Addresses.{ipv6_text}

-- the two groups of the four octets from this one on
abbrev pub two_groups : List ℕ → ℕ → List ℕ
two_groups xs i = ipv6_text (get_or xs i 0 ∷ get_or xs (i + 1) 0 ∷ get_or xs (i + 2) 0 ∷ get_or xs (i + 3) 0 ∷ [])

pub ipv6_of_sixteen : (xs : List ℕ) → length xs ≡ 16
    → ipv6_text xs ≡ two_groups xs 0 ++ 58 ∷ (two_groups xs 4 ++ 58 ∷ (two_groups xs 8 ++ 58 ∷ two_groups xs 12))
ipv6_of_sixteen [] l = absurd (omega arith)
ipv6_of_sixteen (x0 ∷ []) l = absurd (omega arith)
ipv6_of_sixteen (x0 ∷ x1 ∷ []) l = absurd (omega arith)
ipv6_of_sixteen (x0 ∷ x1 ∷ x2 ∷ []) l = absurd (omega arith)
ipv6_of_sixteen (x0 ∷ x1 ∷ x2 ∷ x3 ∷ []) l = absurd (omega arith)
ipv6_of_sixteen (x0 ∷ x1 ∷ x2 ∷ x3 ∷ x4 ∷ []) l = absurd (omega arith)
ipv6_of_sixteen (x0 ∷ x1 ∷ x2 ∷ x3 ∷ x4 ∷ x5 ∷ []) l = absurd (omega arith)
ipv6_of_sixteen (x0 ∷ x1 ∷ x2 ∷ x3 ∷ x4 ∷ x5 ∷ x6 ∷ []) l = absurd (omega arith)
ipv6_of_sixteen (x0 ∷ x1 ∷ x2 ∷ x3 ∷ x4 ∷ x5 ∷ x6 ∷ x7 ∷ []) l = absurd (omega arith)
ipv6_of_sixteen (x0 ∷ x1 ∷ x2 ∷ x3 ∷ x4 ∷ x5 ∷ x6 ∷ x7 ∷ x8 ∷ []) l = absurd (omega arith)
ipv6_of_sixteen (x0 ∷ x1 ∷ x2 ∷ x3 ∷ x4 ∷ x5 ∷ x6 ∷ x7 ∷ x8 ∷ x9 ∷ []) l = absurd (omega arith)
ipv6_of_sixteen (x0 ∷ x1 ∷ x2 ∷ x3 ∷ x4 ∷ x5 ∷ x6 ∷ x7 ∷ x8 ∷ x9 ∷ x10 ∷ []) l = absurd (omega arith)
ipv6_of_sixteen (x0 ∷ x1 ∷ x2 ∷ x3 ∷ x4 ∷ x5 ∷ x6 ∷ x7 ∷ x8 ∷ x9 ∷ x10 ∷ x11 ∷ []) l = absurd (omega arith)
ipv6_of_sixteen (x0 ∷ x1 ∷ x2 ∷ x3 ∷ x4 ∷ x5 ∷ x6 ∷ x7 ∷ x8 ∷ x9 ∷ x10 ∷ x11 ∷ x12 ∷ []) l = absurd (omega arith)
ipv6_of_sixteen (x0 ∷ x1 ∷ x2 ∷ x3 ∷ x4 ∷ x5 ∷ x6 ∷ x7 ∷ x8 ∷ x9 ∷ x10 ∷ x11 ∷ x12 ∷ x13 ∷ []) l = absurd (omega arith)
ipv6_of_sixteen (x0 ∷ x1 ∷ x2 ∷ x3 ∷ x4 ∷ x5 ∷ x6 ∷ x7 ∷ x8 ∷ x9 ∷ x10 ∷ x11 ∷ x12 ∷ x13 ∷ x14 ∷ []) l = absurd (omega arith)
ipv6_of_sixteen (x0 ∷ x1 ∷ x2 ∷ x3 ∷ x4 ∷ x5 ∷ x6 ∷ x7 ∷ x8 ∷ x9 ∷ x10 ∷ x11 ∷ x12 ∷ x13 ∷ x14 ∷ x15 ∷ []) l = refl
ipv6_of_sixteen (x0 ∷ x1 ∷ x2 ∷ x3 ∷ x4 ∷ x5 ∷ x6 ∷ x7 ∷ x8 ∷ x9 ∷ x10 ∷ x11 ∷ x12 ∷ x13 ∷ x14 ∷ x15 ∷ x16 ∷ xs) l = absurd (omega arith)

-- the digits of an octet, by their count
pub ones : (n : ℕ) → n < 10 → decimal n ≡ (48 + n % 10) ∷ []
ones n h = decimal_digit n h ∙ ap (λ k. (48 + k) ∷ []) (omega arith)

pub tens : (n : ℕ) → 10 ≤ n → n < 100 → decimal n ≡ (48 + n / 10 % 10) ∷ (48 + n % 10) ∷ []
tens n low high = decimal_step n low (omega arith) ∙ ap (λ ds. ds ++ (48 + n % 10) ∷ []) (ones (n / 10) (omega arith))

pub hundreds : (n : ℕ) → 100 ≤ n → n < 256 → decimal n ≡ (48 + n / 100) ∷ (48 + n / 10 % 10) ∷ (48 + n % 10) ∷ []
hundreds n low high =
    decimal_step n (omega arith) (omega arith)
    ∙ ap (λ ds. ds ++ (48 + n % 10) ∷ []) (tens (n / 10) (omega arith) (omega arith))
    ∙ ap (λ k. (48 + k) ∷ (48 + n / 10 % 10) ∷ (48 + n % 10) ∷ []) (omega arith)
