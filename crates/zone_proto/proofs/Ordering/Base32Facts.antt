-- Characters of base32hex, one after the other, which are in lower case
use Rattle.std.proofs.Common.{◌≡◌, ◌<◌, ℕ, ◌+◌, ◌*◌, List, [], ◌∷◌, ◌++◌, map, cond, Bool, true, false, nat_lt, encode_utf8, length, refl, sym, ap, ◌∙◌, arith}
use Rattle.std.specs.Char.{digit_char, to_ascii_lowercase}
use Rattle.std.specs.List.{range_with_len}
use Rattle.std.proofs.lemmas.Str.{encode_ascii}
use Rattle.std.proofs.lemmas.List.FromFn.{map-range_with_len_more}
use Rattle.std.proofs.lemmas.Bool.Decides.{nat_tests}
use Rattle.zone_proto.specs.Base32.{base32_count, base32_text, five_bits}
use Rattle.zone_proto.specs.Names.{lower_label}

char_is_ascii : (d : ℕ) → d < 32 → digit_char d < 128
char_is_ascii d h = by (nat_lt d 10)
  where
    by : (b : Bool) → cond b (48 + d) (87 + d) < 128
    by true = omega arith
    by false = omega arith

-- the first i characters, and the next
pub next_character : (bs : List ℕ) (i d : ℕ) → d ≡ five_bits bs (i * 5) → d < 32
    → map (λ k. digit_char (five_bits bs (k * 5))) (range_with_len 0 i) ++ encode_utf8 (digit_char d) ≡ map (λ k. digit_char (five_bits bs (k * 5))) (range_with_len 0 (i + 1))
next_character bs i d e small =
    let before : List ℕ = map (λ k. digit_char (five_bits bs (k * 5))) (range_with_len 0 i) in
    ap (λ (t : List ℕ). before ++ t) (encode_ascii (digit_char d) (char_is_ascii d small))
    ∙ ap (λ (n : ℕ). before ++ digit_char n ∷ []) e
    ∙ sym (map-range_with_len_more (λ k. digit_char (five_bits bs (k * 5))) 0 i i (omega arith))

lower_character : (d : ℕ) → to_ascii_lowercase (digit_char d) ≡ digit_char d
lower_character d = grind (arith, nat_tests)

lower_characters : (f : ℕ → ℕ) (ks : List ℕ) → map to_ascii_lowercase (map (λ k. digit_char (f k)) ks) ≡ map (λ k. digit_char (f k)) ks
lower_characters f [] = refl
lower_characters f (k ∷ ks) = λ i. lower_character (f k) i ∷ lower_characters f ks i

-- a text is in lower case already
pub lower_text : (bs : List ℕ) → lower_label (base32_text bs) ≡ base32_text bs
lower_text bs = lower_characters (λ k. five_bits bs (k * 5)) (range_with_len 0 (base32_count (length bs)))
