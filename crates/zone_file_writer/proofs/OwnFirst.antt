-- What is printed of numbers, addresses and hex isn't `\#`.
use Rattle.std.proofs.Common.{◌≡◌, ◌<◌, ◌^◌, ℕ, ◌/◌, ◌%◌, List, [], ◌∷◌, ◌++◌, map, length, false, refl, arith}
use Rattle.std.specs.Fmt.{decimal}
use Rattle.std.specs.List.{AllByRecursion}
use Rattle.std.specs.Str.Parse.{AllDigits}
use Rattle.std.proofs.lemmas.Fmt.{decimal_is_IsNumeral}
use Rattle.zone_proto.specs.Data.{same_octets}
use Rattle.line_text.specs.Addresses.{ipv4_text}
use Rattle.line_text.specs.Parts.{joined}
use Rattle.record_fields.specs.Texts.{generic}
use Rattle.zone_file_writer.specs.Others.{hex_digit, hex_digits}
use Rattle.zone_file_writer.proofs.NamesBack.{first_is, not_generic}
use Rattle.zone_file_writer.proofs.WordTexts.{hex_digit_harmless, value_harmless}

digits_own : (ds : List ℕ) → AllDigits 10 ds → 0 < length ds → same_octets ds generic ≡ false
digits_own [] h some = absurd (omega arith)
digits_own (c ∷ cs) h some = not_generic c cs (value_harmless c h.0).backslash

pub decimal_own : (n : ℕ) → n < 2 ^ 64 → same_octets (decimal n) generic ≡ false
decimal_own n h = let written = decimal_is_IsNumeral n h in digits_own (decimal n) written.0.1 written.0.0

pub first_own : (s t : List ℕ) → 0 < length s → same_octets s generic ≡ false → first_is s 92 ≡ false → same_octets (s ++ t) generic ≡ false
first_own [] t some h k = absurd (omega arith)
first_own (b ∷ s) t some h k = not_generic b (s ++ t) k

pub digits_first : (ds : List ℕ) → AllDigits 10 ds → first_is ds 92 ≡ false
digits_first [] h = refl
digits_first (c ∷ cs) h = (value_harmless c h.0).backslash

pub ipv4_own : (bs : List ℕ) → length bs ≡ 4 → AllByRecursion (λ b. b < 256) bs → same_octets (ipv4_text bs) generic ≡ false
ipv4_own [] l h = absurd (omega arith)
ipv4_own (b ∷ []) l h = absurd (omega arith)
ipv4_own (b ∷ c ∷ bs) l h =
    let written = decimal_is_IsNumeral b (omega (arith, h.0)) in
    first_own (decimal b) (46 ∷ joined 46 (map decimal (c ∷ bs))) written.0.0 (decimal_own b (omega (arith, h.0))) (digits_first (decimal b) written.0.1)

pub hex_own : (o : ℕ) (os : List ℕ) → AllByRecursion (λ b. b < 256) (o ∷ os) → same_octets (hex_digits (o ∷ os)) generic ≡ false
hex_own o os h = not_generic (hex_digit (o / 16)) (hex_digit (o % 16) ∷ hex_digits os) (hex_digit_harmless (o / 16) (omega (arith, h.0))).backslash
