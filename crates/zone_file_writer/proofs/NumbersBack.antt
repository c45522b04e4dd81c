-- Printed numbers, types and octets are read back.
use Rattle.std.proofs.Common.{◌≡◌, ◌<◌, ◌≤◌, ℕ, ◌==◌, List, [], ◌∷◌, ◌++◌, length, Bool, true, false, cond, ◌&&◌, not, ◌*◌, ◌/◌, ◌%◌, ◌+◌, ◌^◌, None, Option, Some, refl, ap, ◌∙◌, arith, codes, unwrap_or}
use Rattle.std.specs.Prelude.{ℤ, nat_le, nat_lt}
use Rattle.std.specs.Char.{digit_value, to_ascii_uppercase}
use Rattle.std.specs.Fmt.{decimal}
use Rattle.std.specs.Int.{w32, cast_unsigned}
use Rattle.std.specs.Int.RustNames.{FitsSigned}
use Rattle.std.proofs.Math.Facts.{to_z-of_z, Fits-of_z, Fits-lt-pow}
use Rattle.std.specs.List.{list_all, AllByRecursion}
use Rattle.std.specs.Str.Parse.{AllDigits}
use Rattle.std.proofs.lemmas.Bool.Decides.{leb_tells, nat_tests}
use Rattle.std.proofs.lemmas.Fmt.{decimal_is_IsNumeral}
use Rattle.zone_proto.specs.declared.record_type.RecordType.{RecordType}
use Rattle.zone_proto.specs.TypeText.{Word, word_of, type_words, type_text}
use Rattle.zone_proto.proofs.Texts.TypeTextLaws.{type_text_read}
use Rattle.line_text.specs.Numbers.{number_within, at_most, digit_of}
use Rattle.line_text.specs.Hex.{hex_octet, hex_octets}
use Rattle.zone_tokens.specs.Hex.{hex_text}
use Rattle.message_reading.specs.DataForms.{signed}
use Rattle.line_text.proofs.PrintedWords.{and_both}
use Rattle.line_text.proofs.RoundTrips.{decimal_read}
use Rattle.zone_tokens.specs.Ttls.{ttl_of_word, timer_of_word}
use Rattle.zone_tokens.specs.Types.{algorithm_named, upper, type_named}
use Rattle.record_fields.specs.Fields.{record_type_named}
use Rattle.zone_file_writer.specs.Others.{hex_digit, hex_digits}
use Rattle.zone_file_writer.specs.Words.{further_words, type_word}
use Rattle.zone_file_writer.specs.Printable.{IsRecordType}

pub u8_back : (n : ℕ) → n < 256 → number_within 10 255 (decimal n) ≡ Some n
u8_back n h = decimal_read 255 n (omega arith) (omega arith)

pub u16_back : (n : ℕ) → n < 65536 → number_within 10 65535 (decimal n) ≡ Some n
u16_back n h = decimal_read 65535 n (omega arith) (omega arith)

pub u32_back : (n : ℕ) → n < 4294967296 → number_within 10 4294967295 (decimal n) ≡ Some n
u32_back n h = decimal_read 4294967295 n (omega arith) (omega arith)

pub algorithm_back : (n : ℕ) → n < 256 → algorithm_named (decimal n) ≡ Some n
algorithm_back n h = rw (u8_back n h) refl

small_enough : (n : ℕ) → n < 2147483648 → at_most 2147483647 n ≡ Some n
small_enough n h = let yes : nat_le n 2147483647 ≡ true = grind (arith, leb_tells) in rw yes refl

seconds : (t : List ℕ) (n : ℕ) → 0 < length t → n < 2147483648 → number_within 10 4294967295 t ≡ Some n → ttl_of_word t ≡ Some n
seconds [] n some small h = absurd (omega arith)
seconds (b ∷ t) n some small h = rw (h, small_enough n small) refl

pub ttl_back : (n : ℕ) → n < 2147483648 → ttl_of_word (decimal n) ≡ Some n
ttl_back n h = seconds (decimal n) n (decimal_is_IsNumeral n (omega arith)).0.0 h (u32_back n (omega arith))

pub timer_back : (n : ℕ) → n < 4294967296 → timer_of_word (decimal n) ≡ Some n
timer_back n h = some_digits (decimal n) (decimal_is_IsNumeral n (omega arith)).0.0 (u32_back n h)
  where
    some_digits : (t : List ℕ) → 0 < length t → number_within 10 4294967295 t ≡ Some n → timer_of_word t ≡ Some n
    some_digits [] some k = absurd (omega arith)
    some_digits (b ∷ t) some k = let yes : nat_le n 4294967295 ≡ true = grind (arith, leb_tells) in rw (k, yes) refl

-- a timer with a sign, as one without
pub unsigned_small : (z : ℤ) → FitsSigned w32 z → cast_unsigned w32 z < 4294967296
unsigned_small z h = let small : cast_unsigned w32 z < 2 ^ 32 = Fits-lt-pow (Fits-of_z h) in omega arith

pub signed_back : (z : ℤ) → FitsSigned w32 z → signed (cast_unsigned w32 z) ≡ z
signed_back z h = to_z-of_z h

-- ---- types

abbrev is_upper : ℕ → Bool
is_upper c = not (nat_le 97 c && nat_le c 122)

upper_octet : (c : ℕ) → is_upper c ≡ true → to_ascii_uppercase c ≡ c
upper_octet c h = grind (arith, nat_tests, leb_tells)

upper_octets : (t : List ℕ) → list_all is_upper t ≡ true → upper t ≡ t
upper_octets [] h = refl
upper_octets (c ∷ t) h =
    let both = and_both (is_upper c) (list_all is_upper t) h in
    ap (λ (d : ℕ). d ∷ upper t) (upper_octet c both.0) ∙ ap (λ (s : List ℕ). c ∷ s) (upper_octets t both.1)

upper_digit : (c : ℕ) → digit_value c < 10 → to_ascii_uppercase c ≡ c
upper_digit c h = grind (arith, nat_tests, leb_tells)

upper_digits : (ds : List ℕ) → AllDigits 10 ds → upper ds ≡ ds
upper_digits [] h = refl
upper_digits (c ∷ cs) h = ap (λ (d : ℕ). d ∷ upper cs) (upper_digit c h.0) ∙ ap (λ (s : List ℕ). c ∷ s) (upper_digits cs h.1)

listed_upper : (t : ℕ) (other : List ℕ) (ws : List Word) → list_all (λ w. list_all is_upper w.text) ws ≡ true → upper other ≡ other → upper (unwrap_or (word_of t ws) other) ≡ unwrap_or (word_of t ws) other
listed_upper t other [] all h = h
listed_upper t other (w ∷ ws) all h =
    let both = and_both (list_all is_upper w.text) (list_all (λ v. list_all is_upper v.text) ws) all in
    by (t == w.number) (upper_octets w.text both.0) (listed_upper t other ws both.1 h)
  where
    by : (b : Bool) → upper w.text ≡ w.text → upper (unwrap_or (word_of t ws) other) ≡ unwrap_or (word_of t ws) other
        → upper (unwrap_or (cond b (Some w.text) (word_of t ws)) other) ≡ unwrap_or (cond b (Some w.text) (word_of t ws)) other
    by true this more = this
    by false this more = more

numbered_upper : (t : ℕ) → t < 65536 → upper (codes "TYPE" ++ decimal t) ≡ codes "TYPE" ++ decimal t
numbered_upper t h = ap (λ (s : List ℕ). codes "TYPE" ++ s) (upper_digits (decimal t) (decimal_is_IsNumeral t (omega arith)).0.1)

upper_type_text : (t : ℕ) → t < 65536 → upper (type_text t) ≡ type_text t
upper_type_text t h = listed_upper t (codes "TYPE" ++ decimal t) type_words refl (numbered_upper t h)

named_back : (t : ℕ) → t < 65536 → type_named (type_text t) ≡ Some (record { 0 = t })
named_back t h = rw (upper_type_text t h, type_text_read t h) refl

abbrev by_number : ℕ → RecordType
by_number n = record { 0 = n }

-- whether a word names this type
abbrev is_some_of : Option RecordType → ℕ → Bool
is_some_of None t = false
is_some_of (Some u) t = u.0 == t

abbrev names : ℕ → List ℕ → Bool
names t text = is_some_of (type_named text) t

some_back : (o : Option RecordType) (t : ℕ) → is_some_of o t ≡ true → o ≡ Some (record { 0 = t })
some_back None t h = absurd (cc)
some_back (Some u) t h = let same : u.0 ≡ t = grind (arith, nat_tests) in ap (λ (n : ℕ). Some (by_number n)) same

further_back : (t : ℕ) (other : List ℕ) (ws : List Word) → list_all (λ w. names w.number w.text) ws ≡ true → type_named other ≡ Some (record { 0 = t })
    → type_named (unwrap_or (word_of t ws) other) ≡ Some (record { 0 = t })
further_back t other [] all h = h
further_back t other (w ∷ ws) all h =
    let both = and_both (names w.number w.text) (list_all (λ v. names v.number v.text) ws) all in
    by (t == w.number) refl (some_back (type_named w.text) w.number both.0) (further_back t other ws both.1 h)
  where
    by : (b : Bool) → (t == w.number) ≡ b → type_named w.text ≡ Some (record { 0 = w.number }) → type_named (unwrap_or (word_of t ws) other) ≡ Some (record { 0 = t })
        → type_named (unwrap_or (cond b (Some w.text) (word_of t ws)) other) ≡ Some (record { 0 = t })
    by true e this more = let same : w.number ≡ t = grind (arith, nat_tests) in this ∙ ap (λ (n : ℕ). Some (by_number n)) same
    by false e this more = more

word_back : (t : ℕ) → t < 65536 → type_named (type_word t) ≡ Some (record { 0 = t })
word_back t h = further_back t (type_text t) further_words refl (named_back t h)

pub type_back : (t : RecordType) → IsRecordType t → record_type_named (type_word t.0) ≡ Some t
type_back t h = rw (word_back t.0 h.range, h.records) refl

-- ---- octets

less_true : (a b : ℕ) → a < b → nat_lt a b ≡ true
less_true a b h = grind (arith, leb_tells)

upper_value : (d : ℕ) → d < 16 → digit_value (hex_digit d) ≡ d
upper_value d h = by (nat_lt d 10) refl
  where
    low : (d : ℕ) → d < 10 → digit_value (48 + d) ≡ d
    low d h = grind (arith, nat_tests, leb_tells)

    high : (d : ℕ) → 10 ≤ d → d < 16 → digit_value (55 + d) ≡ d
    high d h g = grind (arith, nat_tests, leb_tells)

    by : (b : Bool) → nat_lt d 10 ≡ b → digit_value (cond b (48 + d) (55 + d)) ≡ d
    by true e = low d (grind (arith, leb_tells))
    by false e = high d (grind (arith, leb_tells)) h

hex_digit_back : (d : ℕ) → d < 16 → digit_of 16 (hex_digit d) ≡ Some d
hex_digit_back d h = rw (upper_value d h, less_true d 16 h) refl

hex_octet_back : (b : ℕ) → b < 256 → hex_octet (hex_digit (b / 16)) (hex_digit (b % 16)) ≡ Some b
hex_octet_back b h =
    let whole : b / 16 * 16 + b % 16 ≡ b = omega arith in
    rw (hex_digit_back (b / 16) (omega arith), hex_digit_back (b % 16) (omega arith)) (ap (λ (n : ℕ). Some n) whole)

hex_octets_back : (bs : List ℕ) → AllByRecursion (λ b. b < 256) bs → hex_octets (hex_digits bs) ≡ Some bs
hex_octets_back [] h = refl
hex_octets_back (b ∷ bs) h = rw (hex_octet_back b h.0, hex_octets_back bs h.1) refl

pub digits_back : (o : ℕ) (os : List ℕ) → AllByRecursion (λ b. b < 256) (o ∷ os) → hex_text (hex_digits (o ∷ os)) ≡ Some (o ∷ os)
digits_back o os h = hex_octets_back (o ∷ os) h
