-- Base64 is a text of a word, and is read back.
use Rattle.std.proofs.Common.{◌≡◌, ◌<◌, ℕ, ◌+◌, ◌*◌, ◌/◌, ◌%◌, length, List, [], ◌∷◌, ◌++◌, replicate, Bool, true, false, not, ◌&&◌, ◌==◌, Some, refl, arith, zero, suc, slice_index}
use Rattle.std.specs.Prelude.{nat_lt}
use Rattle.std.specs.List.{list_all, AllByRecursion}
use Rattle.std.proofs.lemmas.Bool.Decides.{leb_tells, nat_tests}
use Rattle.base64.specs.Engines.{standard}
use Rattle.base64.specs.Rfc4648.{encode_symbols, padding_len}
use Rattle.base64.specs.GeneralPurpose.{decoded_of, engine_symbols}
use Rattle.base64.proofs.EngineFacts.{decode_of-encode_of}
use Rattle.base64.proofs.Streams.{decoded_of-ok}
use Rattle.line_text.proofs.PrintedWords.{and_both}
use Rattle.zone_proto.specs.Data.{same_octets}
use Rattle.record_fields.specs.Texts.{generic}
use Rattle.zone_file_writer.specs.Others.{base64_text}
use Rattle.zone_file_writer.proofs.Lines.{IsInWord, IsBareText}
use Rattle.zone_file_writer.proofs.NamesBack.{not_generic}
use Rattle.zone_file_writer.proofs.WordTexts.{IsHarmless, harmless, harmless_in_word, in_word_append, word_text}

-- the 64 symbols
abbrev symbols : List ℕ
symbols = engine_symbols standard

abbrev is_harmless : ℕ → Bool
is_harmless b = nat_lt 41 b && (not (b == 59) && not (b == 92))

told : (b : ℕ) → is_harmless b ≡ true → IsHarmless b
told b h = harmless b (grind (arith, nat_tests, leb_tells)) (grind (arith, nat_tests, leb_tells)) (grind (arith, nat_tests, leb_tells))

at : (xs : List ℕ) (i : ℕ) → list_all is_harmless xs ≡ true → i < length xs → is_harmless (slice_index xs i) ≡ true
at [] i h k = absurd (omega arith)
at (x ∷ xs) zero h k = (and_both (is_harmless x) (list_all is_harmless xs) h).0
at (x ∷ xs) (suc i) h k = at xs i (and_both (is_harmless x) (list_all is_harmless xs) h).1 (omega arith)

-- each of the 64 symbols
symbol : (i : ℕ) → i < 64 → IsHarmless (slice_index symbols i)
symbol i h = told (slice_index symbols i) (at symbols i refl h)

symbol_and : (i : ℕ) (t : List ℕ) → i < 64 → IsInWord false t → IsInWord false (slice_index symbols i ∷ t)
symbol_and i t h more = harmless_in_word (slice_index symbols i) t (symbol i h) more

symbols_in_word : (m : List ℕ) → AllByRecursion (λ b. b < 256) m → IsInWord false (encode_symbols symbols m)
unfolding encode_symbols
symbols_in_word [] h = tt
symbols_in_word (a ∷ []) h =
    symbol_and (a / 4) (slice_index symbols (a % 4 * 16) ∷ []) (omega (arith, h.0)) (symbol_and (a % 4 * 16) [] (omega arith) tt)
symbols_in_word (a ∷ b ∷ []) h =
    symbol_and (a / 4) (slice_index symbols (a % 4 * 16 + b / 16) ∷ slice_index symbols (b % 16 * 4) ∷ []) (omega (arith, h.0))
    (symbol_and (a % 4 * 16 + b / 16) (slice_index symbols (b % 16 * 4) ∷ []) (omega (arith, h.1.0)) (symbol_and (b % 16 * 4) [] (omega arith) tt))
symbols_in_word (a ∷ b ∷ c ∷ rest) h =
    let third : List ℕ = slice_index symbols (c % 64) ∷ encode_symbols symbols rest in
    let second : List ℕ = slice_index symbols (b % 16 * 4 + c / 64) ∷ third in
    symbol_and (a / 4) (slice_index symbols (a % 4 * 16 + b / 16) ∷ second) (omega (arith, h.0))
    (symbol_and (a % 4 * 16 + b / 16) second (omega (arith, h.1.0))
    (symbol_and (b % 16 * 4 + c / 64) third (omega (arith, h.1.1.0))
    (symbol_and (c % 64) (encode_symbols symbols rest) (omega arith) (symbols_in_word rest h.1.1.1))))

equals_harmless : IsHarmless 61
equals_harmless = harmless 61 (omega arith) refl refl

padding_in_word : (n : ℕ) → IsInWord false (replicate n 61)
padding_in_word zero = tt
padding_in_word (suc n) = harmless_in_word 61 (replicate n 61) equals_harmless (padding_in_word n)

some_symbols : (a : ℕ) (m t : List ℕ) → 0 < length (encode_symbols symbols (a ∷ m) ++ t)
unfolding encode_symbols
some_symbols a [] t = omega arith
some_symbols a (b ∷ []) t = omega arith
some_symbols a (b ∷ c ∷ m) t = omega arith

-- of one octet at least
pub base64_is_text : (a : ℕ) (m : List ℕ) → AllByRecursion (λ b. b < 256) (a ∷ m) → IsBareText (base64_text (a ∷ m))
base64_is_text a m h =
    word_text (base64_text (a ∷ m)) (some_symbols a m (replicate (padding_len (length (a ∷ m))) 61))
    (in_word_append (encode_symbols symbols (a ∷ m)) (replicate (padding_len (length (a ∷ m))) 61) false (symbols_in_word (a ∷ m) h) (padding_in_word (padding_len (length (a ∷ m)))))

bytes : (m : List ℕ) → AllByRecursion (λ b. b < 256) m → (i : ℕ) → slice_index m i < 256
bytes [] h i = omega arith
bytes (b ∷ m) h zero = h.0
bytes (b ∷ m) h (suc i) = bytes m h.1 i

pub base64_back : (m : List ℕ) → AllByRecursion (λ b. b < 256) m → decoded_of standard (base64_text m) ≡ Some m
base64_back m h = decoded_of-ok standard (base64_text m) m (decode_of-encode_of standard m refl (bytes m h))

-- the signs of padding behind the symbols of octets
abbrev padding : List ℕ → List ℕ
padding m = replicate (padding_len (length m)) 61

-- it isn't `\#`
pub base64_own : (a : ℕ) (m : List ℕ) → AllByRecursion (λ b. b < 256) (a ∷ m) → same_octets (base64_text (a ∷ m)) generic ≡ false
unfolding encode_symbols
base64_own a [] h =
    not_generic (slice_index symbols (a / 4)) (slice_index symbols (a % 4 * 16) ∷ padding (a ∷ [])) (symbol (a / 4) (omega (arith, h.0))).backslash
base64_own a (b ∷ []) h =
    not_generic (slice_index symbols (a / 4)) (slice_index symbols (a % 4 * 16 + b / 16) ∷ slice_index symbols (b % 16 * 4) ∷ padding (a ∷ b ∷ []))
    (symbol (a / 4) (omega (arith, h.0))).backslash
base64_own a (b ∷ c ∷ m) h =
    not_generic (slice_index symbols (a / 4))
    (slice_index symbols (a % 4 * 16 + b / 16) ∷ slice_index symbols (b % 16 * 4 + c / 64) ∷ slice_index symbols (c % 64)
    ∷ (encode_symbols symbols m ++ padding (a ∷ b ∷ c ∷ m)))
    (symbol (a / 4) (omega (arith, h.0))).backslash
