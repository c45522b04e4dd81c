-- What is printed of groups of hex, and of octets with hyphens between them, is read as them.
use Rattle.std.proofs.Common.{◌≡◌, ◌<◌, ℕ, ◌+◌, ◌*◌, ◌/◌, ◌%◌, List, [], ◌∷◌, ◌++◌, length, ◌==◌, true, false, Some, refl, ap, arith}
use Rattle.std.specs.Prelude.{nat_lt}
use Rattle.std.specs.Char.{digit_char}
use Rattle.std.specs.List.{AllByRecursion}
use Rattle.std.proofs.lemmas.Bool.Decides.{leb_tells, nat_tests}
use Rattle.zone_proto.specs.Data.{same_octets}
use Rattle.line_text.specs.Addresses.{ipv6_text}
use Rattle.line_text.specs.Hex.{hex_octet, hex_of_octet}
use Rattle.line_text.proofs.RoundTrips.{char_value, ipv6_read}
use Rattle.record_fields.specs.Parts.{groups_of_word, pairs_of, pairs_of_word}
use Rattle.record_fields.specs.Texts.{generic}
use Rattle.zone_file_writer.specs.Rows.{further_pairs, pairs_text}
use Rattle.zone_file_writer.proofs.Lines.{IsBareText, IsInWord}
use Rattle.zone_file_writer.proofs.NamesBack.{not_generic}
use Rattle.zone_file_writer.proofs.WordTexts.{colon_harmless, dash_harmless, digit_char_harmless, harmless_in_word, hex_in_word, in_word_append, joined_in_word}

abbrev AreOctets : List ℕ → Type 0
AreOctets os = AllByRecursion (λ b. b < 256) os

-- text of a word, which isn't `\#`, and is read as these octets
pub record IsPart (t : List ℕ) : Type 0 where
  pub text : IsBareText t
  pub own : same_octets t generic ≡ false

-- a text that a digit of hex begins
digit_first : (d : ℕ) (t : List ℕ) → d < 16 → IsInWord false (digit_char d ∷ t) → IsPart (digit_char d ∷ t)
digit_first d t h more = record { text = more; own = not_generic (digit_char d) t (digit_char_harmless d (omega arith)).backslash }

-- ---- groups

two_octets : (a b : ℕ) → a < 256 → b < 256 → IsInWord false (hex_of_octet a ++ hex_of_octet b)
two_octets a b h k = in_word_append (hex_of_octet a) (hex_of_octet b) false (hex_in_word a h) (hex_in_word b k)

pub groups_part : (a b c d e f g h : ℕ) → AreOctets (a ∷ b ∷ c ∷ d ∷ e ∷ f ∷ g ∷ h ∷ []) → IsPart (ipv6_text (a ∷ b ∷ c ∷ d ∷ e ∷ f ∷ g ∷ h ∷ []))
groups_part a b c d e f g h (i, (j, (k, (l, (m, (n, (o, (p, q)))))))) =
    digit_first (a / 16) (digit_char (a % 16) ∷ (hex_of_octet b ++ (58 ∷ ipv6_text (c ∷ d ∷ e ∷ f ∷ g ∷ h ∷ [])))) (omega arith)
    (joined_in_word 58 ((hex_of_octet a ++ hex_of_octet b) ∷ (hex_of_octet c ++ hex_of_octet d) ∷ (hex_of_octet e ++ hex_of_octet f) ∷ (hex_of_octet g ++ hex_of_octet h) ∷ [])
    colon_harmless (two_octets a b i j, (two_octets c d k l, (two_octets e f m n, (two_octets g h o p, tt)))))

pub groups_back : (a b c d e f g h : ℕ) → AreOctets (a ∷ b ∷ c ∷ d ∷ e ∷ f ∷ g ∷ h ∷ [])
    → groups_of_word (ipv6_text (a ∷ b ∷ c ∷ d ∷ e ∷ f ∷ g ∷ h ∷ [])) ≡ Some (a ∷ b ∷ c ∷ d ∷ e ∷ f ∷ g ∷ h ∷ [])
groups_back a b c d e f g h (i, (j, (k, (l, (m, (n, (o, (p, q)))))))) =
    let zero : 0 < 256 = omega arith in
    let all : AreOctets (a ∷ b ∷ c ∷ d ∷ e ∷ f ∷ g ∷ h ∷ 0 ∷ 0 ∷ 0 ∷ 0 ∷ 0 ∷ 0 ∷ 0 ∷ 0 ∷ []) =
    (i, (j, (k, (l, (m, (n, (o, (p, (zero, (zero, (zero, (zero, (zero, (zero, (zero, (zero, tt)))))))))))))))) in
    rw (ipv6_read (a ∷ b ∷ c ∷ d ∷ e ∷ f ∷ g ∷ h ∷ 0 ∷ 0 ∷ 0 ∷ 0 ∷ 0 ∷ 0 ∷ 0 ∷ 0 ∷ []) refl all) refl

-- ---- pairs of digits

less_true : (a b : ℕ) → a < b → nat_lt a b ≡ true
less_true a b h = grind (arith, leb_tells)

pair_read : (b : ℕ) → b < 256 → hex_octet (digit_char (b / 16)) (digit_char (b % 16)) ≡ Some b
pair_read b h =
    let whole : b / 16 * 16 + b % 16 ≡ b = omega arith in
    rw (char_value (b / 16) (omega arith), less_true (b / 16) 16 (omega arith), char_value (b % 16) (omega arith), less_true (b % 16) 16 (omega arith))
    (ap (λ (n : ℕ). Some n) whole)

further_read : (o : ℕ) (os : List ℕ) → AreOctets (o ∷ os) → pairs_of (pairs_text (o ∷ os)) ≡ Some (o ∷ os)
further_read o [] h = rw (pair_read o h.0) refl
further_read o (b ∷ os) h = rw (pair_read o h.0, further_read b os h.1) refl

further_in_word : (os : List ℕ) → AreOctets os → IsInWord false (further_pairs os)
further_in_word [] h = tt
further_in_word (o ∷ os) h =
    harmless_in_word 45 (hex_of_octet o ++ further_pairs os) dash_harmless
    (in_word_append (hex_of_octet o) (further_pairs os) false (hex_in_word o h.0) (further_in_word os h.1))

pub pairs_part : (o : ℕ) (os : List ℕ) → AreOctets (o ∷ os) → IsPart (pairs_text (o ∷ os))
pairs_part o os h =
    digit_first (o / 16) (digit_char (o % 16) ∷ further_pairs os) (omega (arith, h.0))
    (in_word_append (hex_of_octet o) (further_pairs os) false (hex_in_word o h.0) (further_in_word os h.1))

same : (n : ℕ) → (n == n) ≡ true
same n = grind (arith, nat_tests)

pub pairs_back : (n o : ℕ) (os : List ℕ) → length (o ∷ os) ≡ n → AreOctets (o ∷ os) → pairs_of_word n (pairs_text (o ∷ os)) ≡ Some (o ∷ os)
pairs_back n o os l h = rw (further_read o os h, l, same n) refl
