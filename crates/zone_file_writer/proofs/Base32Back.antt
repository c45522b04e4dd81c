-- What is printed in base32hex is read back.
use Rattle.std.proofs.Common.{◌≡◌, ◌≢◌, ◌<◌, ◌≤◌, ℕ, zero, suc, ◌+◌, ◌*◌, ◌/◌, ◌%◌, ◌==◌, List, [], ◌∷◌, map, length, Bool, true, false, cond, Some, refl, ap, ◌∙◌, arith}
use Rattle.std.specs.Prelude.{◌-◌, ◌^◌, nat_le, nat_lt, slice_index}
use Rattle.std.specs.Char.{digit_char, digit_value}
use Rattle.std.specs.List.{AllByRecursion, range_with_len}
use Rattle.std.proofs.lemmas.Bool.Decides.{leb_tells, nat_tests}
use Rattle.std.proofs.lemmas.Str.{digit_value-digit_char}
use Rattle.zone_proto.specs.Base32.{base32_count, base32_text, five_bits}
use Rattle.zone_proto.specs.Data.{same_octets}
use Rattle.zone_proto.proofs.Ordering.Base32Facts.{lower_text}
use Rattle.zone_tokens.specs.Base32.{base32_octets, five_bits_at, five_bits_of, octet_from, octets_in}
use Rattle.zone_file.specs.Denials.{hash_of_word}
use Rattle.zone_file_writer.proofs.Lines.{IsInWord, IsBareText}
use Rattle.zone_file_writer.proofs.WordTexts.{digit_char_harmless, harmless_in_word, word_text}

-- ---- characters and their five bits

bits_back : (v : ℕ) → v < 32 → five_bits_of (digit_char v) ≡ v
bits_back v h =
    let value : digit_value (digit_char v) ≡ v = digit_value-digit_char v (omega arith) in
    let small : nat_lt v 32 ≡ true = grind (arith, leb_tells) in
    rw (value, small) refl

bits_small : (c : ℕ) → five_bits_of c < 32
bits_small c = by (nat_lt (digit_value c) 32) refl
  where
    by : (b : Bool) → nat_lt (digit_value c) 32 ≡ b → cond b (digit_value c) 0 < 32
    by true e = grind (arith, leb_tells)
    by false e = omega arith

-- ---- the octets of characters, three of which hold an octet whose first bit is the first, the fourth, the second, the fifth
-- or the third of the first of them

first_octet : (a b z : ℕ) → a < 256 → b < 256 → z < 32 → (a / 8 * 1024 + (a % 8 * 4 + b / 64) * 32 + z) / 128 % 256 ≡ a
first_octet a b z h k l =
    let parts : a / 8 * 1024 + (a % 8 * 4 + b / 64) * 32 + z ≡ a * 128 + (b / 64 * 32 + z) = omega arith in
    rw parts (omega arith)

second_octet : (a b c : ℕ) → b < 256 → c < 256 → ((a % 8 * 4 + b / 64) * 1024 + b / 2 % 32 * 32 + (b % 2 * 16 + c / 16)) / 16 % 256 ≡ b
second_octet a b c h k =
    let parts : (a % 8 * 4 + b / 64) * 1024 + b / 2 % 32 * 32 + (b % 2 * 16 + c / 16) ≡ a % 8 * 4096 + b * 16 + c / 16 = omega arith in
    rw parts (omega arith)

third_octet : (b c d : ℕ) → c < 256 → d < 256 → ((b % 2 * 16 + c / 16) * 1024 + (c % 16 * 2 + d / 128) * 32 + d / 4 % 32) / 64 % 256 ≡ c
third_octet b c d h k =
    let parts : (b % 2 * 16 + c / 16) * 1024 + (c % 16 * 2 + d / 128) * 32 + d / 4 % 32 ≡ b % 2 * 16384 + c * 64 + (d / 128 * 32 + d / 4 % 32) = omega arith in
    rw parts (omega arith)

fourth_octet : (c d e : ℕ) → d < 256 → e < 256 → ((c % 16 * 2 + d / 128) * 1024 + d / 4 % 32 * 32 + (d % 4 * 8 + e / 32)) / 8 % 256 ≡ d
fourth_octet c d e h k =
    let parts : (c % 16 * 2 + d / 128) * 1024 + d / 4 % 32 * 32 + (d % 4 * 8 + e / 32) ≡ c % 16 * 2048 + d * 8 + e / 32 = omega arith in
    rw parts (omega arith)

fifth_octet : (d e z : ℕ) → e < 256 → z < 32 → ((d % 4 * 8 + e / 32) * 1024 + e % 32 * 32 + z) / 32 % 256 ≡ e
fifth_octet d e z h k =
    let parts : (d % 4 * 8 + e / 32) * 1024 + e % 32 * 32 + z ≡ d % 4 * 8192 + e * 32 + z = omega arith in
    rw parts (omega arith)

-- the five bits of each of eight characters
bits_0 : (a b : ℕ) → a < 256 → b < 256 → five_bits_of (digit_char ((a * 256 + b) / 2048 % 32)) ≡ a / 8
bits_0 a b h k = bits_back ((a * 256 + b) / 2048 % 32) (omega arith) ∙ omega arith

bits_1 : (a b : ℕ) → a < 256 → b < 256 → five_bits_of (digit_char ((a * 256 + b) / 64 % 32)) ≡ a % 8 * 4 + b / 64
bits_1 a b h k = bits_back ((a * 256 + b) / 64 % 32) (omega arith) ∙ omega arith

bits_2 : (b c : ℕ) → b < 256 → c < 256 → five_bits_of (digit_char ((b * 256 + c) / 512 % 32)) ≡ b / 2 % 32
bits_2 b c h k = bits_back ((b * 256 + c) / 512 % 32) (omega arith) ∙ omega arith

bits_3 : (b c : ℕ) → b < 256 → c < 256 → five_bits_of (digit_char ((b * 256 + c) / 16 % 32)) ≡ b % 2 * 16 + c / 16
bits_3 b c h k = bits_back ((b * 256 + c) / 16 % 32) (omega arith) ∙ omega arith

bits_4 : (c d : ℕ) → c < 256 → d < 256 → five_bits_of (digit_char ((c * 256 + d) / 128 % 32)) ≡ c % 16 * 2 + d / 128
bits_4 c d h k = bits_back ((c * 256 + d) / 128 % 32) (omega arith) ∙ omega arith

bits_5 : (d e : ℕ) → d < 256 → e < 256 → five_bits_of (digit_char ((d * 256 + e) / 1024 % 32)) ≡ d / 4 % 32
bits_5 d e h k = bits_back ((d * 256 + e) / 1024 % 32) (omega arith) ∙ omega arith

bits_6 : (d e : ℕ) → d < 256 → e < 256 → five_bits_of (digit_char ((d * 256 + e) / 32 % 32)) ≡ d % 4 * 8 + e / 32
bits_6 d e h k = bits_back ((d * 256 + e) / 32 % 32) (omega arith) ∙ omega arith

bits_7 : (e f : ℕ) → e < 256 → f < 256 → five_bits_of (digit_char ((e * 256 + f) / 256 % 32)) ≡ e % 32
bits_7 e f h k = bits_back ((e * 256 + f) / 256 % 32) (omega arith) ∙ omega arith

-- ---- texts, five octets after the other

moved : (f g : ℕ → ℕ) → ((i : ℕ) → f (i + 8) ≡ g i) → (n a b : ℕ) → b ≡ a + 8 → map f (range_with_len b n) ≡ map g (range_with_len a n)
moved f g h zero a b e = refl
moved f g h (suc n) a b e = λ i. (ap f e ∙ h a) i ∷ moved f g h n (a + 1) (b + 1) (omega arith) i

later_bits : (a b c d e : ℕ) (rest : List ℕ) (i : ℕ) → five_bits (a ∷ b ∷ c ∷ d ∷ e ∷ rest) ((i + 8) * 5) ≡ five_bits rest (i * 5)
later_bits a b c d e rest i =
    let all : List ℕ = a ∷ b ∷ c ∷ d ∷ e ∷ rest in
    let at : (i + 8) * 5 / 8 ≡ suc (suc (suc (suc (suc (i * 5 / 8))))) = omega arith in
    let after : (i + 8) * 5 / 8 + 1 ≡ suc (suc (suc (suc (suc (i * 5 / 8 + 1))))) = omega arith in
    let place : (i + 8) * 5 % 8 ≡ i * 5 % 8 = omega arith in
    λ j. (slice_index all (at j) * 256 + slice_index all (after j)) / 2 ^ (11 - place j) % 32

abbrev eight : ℕ → ℕ → ℕ → ℕ → ℕ → ℕ → List ℕ → List ℕ
eight a b c d e f t =
    digit_char ((a * 256 + b) / 2048 % 32) ∷ digit_char ((a * 256 + b) / 64 % 32) ∷ digit_char ((b * 256 + c) / 512 % 32) ∷ digit_char ((b * 256 + c) / 16 % 32)
    ∷ digit_char ((c * 256 + d) / 128 % 32) ∷ digit_char ((d * 256 + e) / 1024 % 32) ∷ digit_char ((d * 256 + e) / 32 % 32) ∷ digit_char ((e * 256 + f) / 256 % 32) ∷ t

text_of_five : (a b c d e : ℕ) (rest : List ℕ) → base32_text (a ∷ b ∷ c ∷ d ∷ e ∷ rest) ≡ eight a b c d e (slice_index rest 0) (base32_text rest)
text_of_five a b c d e rest =
    let all : List ℕ = a ∷ b ∷ c ∷ d ∷ e ∷ rest in
    let f : ℕ → ℕ = λ i. digit_char (five_bits all (i * 5)) in
    let g : ℕ → ℕ = λ i. digit_char (five_bits rest (i * 5)) in
    let count : base32_count (length all) ≡ suc (suc (suc (suc (suc (suc (suc (suc (base32_count (length rest))))))))) = omega arith in
    ap (λ n. map f (range_with_len 0 n)) count
    ∙ ap (λ (t : List ℕ). f 0 ∷ f 1 ∷ f 2 ∷ f 3 ∷ f 4 ∷ f 5 ∷ f 6 ∷ f 7 ∷ t) (moved f g (λ i. ap digit_char (later_bits a b c d e rest i)) (base32_count (length rest)) 0 8 refl)

-- ---- and their octets

shifted : (f g : ℕ → ℕ) → ((i : ℕ) → f (i + 5) ≡ g i) → (n a b : ℕ) → b ≡ a + 5 → map f (range_with_len b n) ≡ map g (range_with_len a n)
shifted f g h zero a b e = refl
shifted f g h (suc n) a b e = λ i. (ap f e ∙ h a) i ∷ shifted f g h n (a + 1) (b + 1) (omega arith) i

later_octet : (c0 c1 c2 c3 c4 c5 c6 c7 : ℕ) (t : List ℕ) (i : ℕ)
    → octet_from (c0 ∷ c1 ∷ c2 ∷ c3 ∷ c4 ∷ c5 ∷ c6 ∷ c7 ∷ t) ((i + 5) * 8) ≡ octet_from t (i * 8)
later_octet c0 c1 c2 c3 c4 c5 c6 c7 t i =
    let all : List ℕ = c0 ∷ c1 ∷ c2 ∷ c3 ∷ c4 ∷ c5 ∷ c6 ∷ c7 ∷ t in
    let at : (i + 5) * 8 / 5 ≡ suc (suc (suc (suc (suc (suc (suc (suc (i * 8 / 5)))))))) = omega arith in
    let next : (i + 5) * 8 / 5 + 1 ≡ suc (suc (suc (suc (suc (suc (suc (suc (i * 8 / 5 + 1)))))))) = omega arith in
    let third : (i + 5) * 8 / 5 + 2 ≡ suc (suc (suc (suc (suc (suc (suc (suc (i * 8 / 5 + 2)))))))) = omega arith in
    let place : (i + 5) * 8 % 5 ≡ i * 8 % 5 = omega arith in
    λ j. (five_bits_at all (at j) * 1024 + five_bits_at all (next j) * 32 + five_bits_at all (third j)) / 2 ^ (7 - place j) % 256

octets_of_eight : (c0 c1 c2 c3 c4 c5 c6 c7 : ℕ) (t : List ℕ) → octets_in (c0 ∷ c1 ∷ c2 ∷ c3 ∷ c4 ∷ c5 ∷ c6 ∷ c7 ∷ t)
    ≡ (five_bits_of c0 * 1024 + five_bits_of c1 * 32 + five_bits_of c2) / 128 % 256
    ∷ (five_bits_of c1 * 1024 + five_bits_of c2 * 32 + five_bits_of c3) / 16 % 256
    ∷ (five_bits_of c3 * 1024 + five_bits_of c4 * 32 + five_bits_of c5) / 64 % 256
    ∷ (five_bits_of c4 * 1024 + five_bits_of c5 * 32 + five_bits_of c6) / 8 % 256
    ∷ (five_bits_of c6 * 1024 + five_bits_of c7 * 32 + five_bits_at t 0) / 32 % 256
    ∷ octets_in t
octets_of_eight c0 c1 c2 c3 c4 c5 c6 c7 t =
    let all : List ℕ = c0 ∷ c1 ∷ c2 ∷ c3 ∷ c4 ∷ c5 ∷ c6 ∷ c7 ∷ t in
    let f : ℕ → ℕ = λ i. octet_from all (i * 8) in
    let g : ℕ → ℕ = λ i. octet_from t (i * 8) in
    let count : length all * 5 / 8 ≡ suc (suc (suc (suc (suc (length t * 5 / 8))))) = omega arith in
    ap (λ n. map f (range_with_len 0 n)) count
    ∙ ap (λ (os : List ℕ). f 0 ∷ f 1 ∷ f 2 ∷ f 3 ∷ f 4 ∷ os) (shifted f g (later_octet c0 c1 c2 c3 c4 c5 c6 c7 t) (length t * 5 / 8) 0 5 refl)

five_back : (a b c d e f : ℕ) (t : List ℕ) → a < 256 → b < 256 → c < 256 → d < 256 → e < 256 → f < 256
    → octets_in (eight a b c d e f t) ≡ a ∷ b ∷ c ∷ d ∷ e ∷ octets_in t
five_back a b c d e f t ha hb hc hd he hf =
    let z : ℕ = five_bits_at t 0 in
    octets_of_eight (digit_char ((a * 256 + b) / 2048 % 32)) (digit_char ((a * 256 + b) / 64 % 32)) (digit_char ((b * 256 + c) / 512 % 32)) (digit_char ((b * 256 + c) / 16 % 32))
    (digit_char ((c * 256 + d) / 128 % 32)) (digit_char ((d * 256 + e) / 1024 % 32)) (digit_char ((d * 256 + e) / 32 % 32)) (digit_char ((e * 256 + f) / 256 % 32)) t
    ∙ rw (bits_0 a b ha hb, bits_1 a b ha hb, bits_2 b c hb hc, bits_3 b c hb hc, bits_4 c d hc hd, bits_5 d e hd he, bits_6 d e hd he, bits_7 e f he hf)
    (rw (first_octet a b (b / 2 % 32) ha hb (omega arith), second_octet a b c hb hc, third_octet b c d hc hd, fourth_octet c d e hd he, fifth_octet d e z he (bits_small (slice_index t 0))) refl)

-- ---- the octets of a text

first_small : (os : List ℕ) → AllByRecursion (λ b. b < 256) os → slice_index os 0 < 256
first_small [] h = omega arith
first_small (o ∷ os) h = h.0

zero_bits : five_bits_of 0 ≡ 0
zero_bits = refl

octets_back : (os : List ℕ) → AllByRecursion (λ b. b < 256) os → octets_in (base32_text os) ≡ os
octets_back [] h = refl
octets_back (a ∷ []) h =
    rw (bits_0 a 0 h.0 (omega arith), bits_1 a 0 h.0 (omega arith))
    (rw (first_octet a 0 0 h.0 (omega arith) (omega arith)) refl)
octets_back (a ∷ b ∷ []) h =
    rw (bits_0 a b h.0 h.1.0, bits_1 a b h.0 h.1.0, bits_2 b 0 h.1.0 (omega arith), bits_3 b 0 h.1.0 (omega arith))
    (rw (first_octet a b (b / 2 % 32) h.0 h.1.0 (omega arith), second_octet a b 0 h.1.0 (omega arith)) refl)
octets_back (a ∷ b ∷ c ∷ []) h =
    rw (bits_0 a b h.0 h.1.0, bits_1 a b h.0 h.1.0, bits_2 b c h.1.0 h.1.1.0, bits_3 b c h.1.0 h.1.1.0, bits_4 c 0 h.1.1.0 (omega arith))
    (rw (first_octet a b (b / 2 % 32) h.0 h.1.0 (omega arith), second_octet a b c h.1.0 h.1.1.0, third_octet b c 0 h.1.1.0 (omega arith)) refl)
octets_back (a ∷ b ∷ c ∷ d ∷ []) h =
    rw (bits_0 a b h.0 h.1.0, bits_1 a b h.0 h.1.0, bits_2 b c h.1.0 h.1.1.0, bits_3 b c h.1.0 h.1.1.0, bits_4 c d h.1.1.0 h.1.1.1.0, bits_5 d 0 h.1.1.1.0 (omega arith), bits_6 d 0 h.1.1.1.0 (omega arith))
    (rw (first_octet a b (b / 2 % 32) h.0 h.1.0 (omega arith), second_octet a b c h.1.0 h.1.1.0, third_octet b c d h.1.1.0 h.1.1.1.0, fourth_octet c d 0 h.1.1.1.0 (omega arith)) refl)
octets_back (a ∷ b ∷ c ∷ d ∷ e ∷ os) h =
    ap octets_in (text_of_five a b c d e os)
    ∙ five_back a b c d e (slice_index os 0) (base32_text os) h.0 h.1.0 h.1.1.0 h.1.1.1.0 h.1.1.1.1.0 (first_small os h.1.1.1.1.1)
    ∙ ap (λ (s : List ℕ). a ∷ b ∷ c ∷ d ∷ e ∷ s) (octets_back os h.1.1.1.1.1)

same_itself : (os : List ℕ) → same_octets os os ≡ true
same_itself [] = refl
same_itself (o ∷ os) = let same : (o == o) ≡ true = grind (arith, nat_tests) in rw same (same_itself os)

pub base32_back : (os : List ℕ) → AllByRecursion (λ b. b < 256) os → base32_octets (base32_text os) ≡ Some os
base32_back os h = rw (octets_back os h, lower_text os, same_itself (base32_text os)) refl

countable : (os : List ℕ) → length os ≤ 255 → nat_le (length os) 255 ≡ true
countable os h = grind (arith, leb_tells)

pub hash_back : (os : List ℕ) → AllByRecursion (λ b. b < 256) os → os ≢ [] → length os ≤ 255 → hash_of_word (base32_text os) ≡ Some os
hash_back [] h some k = absurd (some refl)
hash_back (o ∷ os) h some k = rw (base32_back (o ∷ os) h, countable (o ∷ os) k) refl

-- ---- a text is that of a word

five_small : (os : List ℕ) (i : ℕ) → five_bits os i < 32
five_small os i = omega arith

characters_in_word : (f : ℕ → ℕ) → ((i : ℕ) → f i < 32) → (ks : List ℕ) → IsInWord false (map (λ k. digit_char (f k)) ks)
characters_in_word f h [] = tt
characters_in_word f h (k ∷ ks) = harmless_in_word (digit_char (f k)) (map (λ i. digit_char (f i)) ks) (digit_char_harmless (f k) (h k)) (characters_in_word f h ks)

counted : (f : ℕ → ℕ) (n a : ℕ) → length (map f (range_with_len a n)) ≡ n
counted f zero a = refl
counted f (suc n) a = ap suc (counted f n (a + 1))

pub base32_is_text : (o : ℕ) (os : List ℕ) → IsBareText (base32_text (o ∷ os))
base32_is_text o os =
    let all : List ℕ = o ∷ os in
    let bits : ℕ → ℕ = λ k. five_bits all (k * 5) in
    let count : length (base32_text all) ≡ base32_count (length all) = counted (λ k. digit_char (bits k)) (base32_count (length all)) 0 in
    word_text (base32_text all) (omega arith) (characters_in_word bits (λ k. five_small all (k * 5)) (range_with_len 0 (base32_count (length all))))
