-- Octets read from base32hex, one after the other
use Rattle.std.proofs.Common.{◌≡◌, ℕ, ◌+◌, ◌-◌, ◌*◌, ◌/◌, ◌%◌, ◌^◌, List, [], ◌∷◌, ◌++◌, map, length, refl, sym, ap, ◌∙◌, arith}
use Rattle.std.specs.List.{range_with_len}
use Rattle.std.proofs.lemmas.List.FromFn.{map-range_with_len_more}
use Rattle.zone_tokens.specs.Base32.{five_bits_at, octet_from, octets_in}

-- eight characters stand for five octets
pub octet_value : (w : List ℕ) (k x y z : ℕ)
    → x ≡ five_bits_at w (k / 5 * 8 + k % 5 * 8 / 5) → y ≡ five_bits_at w (k / 5 * 8 + k % 5 * 8 / 5 + 1) → z ≡ five_bits_at w (k / 5 * 8 + k % 5 * 8 / 5 + 2)
    → (x * 1024 + y * 32 + z) / 2 ^ (7 - k % 5 * 8 % 5) % 256 ≡ octet_from w (k * 8)
octet_value w k x y z p q r =
    let at : k * 8 / 5 ≡ k / 5 * 8 + k % 5 * 8 / 5 = omega arith in
    let bit : k * 8 % 5 ≡ k % 5 * 8 % 5 = omega arith in
    rw (at, bit, p, q, r) refl

pub octet_count : (n : ℕ) → n / 8 * 5 + n % 8 * 5 / 8 ≡ n * 5 / 8
octet_count n = omega arith

pub next_octet : (w : List ℕ) (k o : ℕ) → o ≡ octet_from w (k * 8)
    → map (λ i. octet_from w (i * 8)) (range_with_len 0 k) ++ o ∷ [] ≡ map (λ i. octet_from w (i * 8)) (range_with_len 0 (k + 1))
next_octet w k o e =
    ap (λ (x : ℕ). map (λ i. octet_from w (i * 8)) (range_with_len 0 k) ++ x ∷ []) e
    ∙ sym (map-range_with_len_more (λ i. octet_from w (i * 8)) 0 k k (omega arith))

pub all_octets : (w : List ℕ) (count : ℕ) → count ≡ length w / 8 * 5 + length w % 8 * 5 / 8 → map (λ i. octet_from w (i * 8)) (range_with_len 0 count) ≡ octets_in w
all_octets w count e = ap (λ (n : ℕ). map (λ i. octet_from w (i * 8)) (range_with_len 0 n)) (e ∙ octet_count (length w))
