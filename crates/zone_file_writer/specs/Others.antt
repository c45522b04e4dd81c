-- Octets in hex, in base64, as `\#`, and as a string
use Rattle.std.specs.Prelude.{ℕ, ◌+◌, ◌/◌, ◌%◌, List, [], ◌∷◌, length, nat_lt, codes, if◌then◌else◌}
use Rattle.std.specs.Fmt.{decimal}
use Rattle.std.specs.List.{flat_map}
use Rattle.base64.specs.Engines.{standard}
use Rattle.base64.specs.GeneralPurpose.{encode_of}
use Rattle.zone_file_writer.specs.Strings.{escaped}
use Rattle.zone_file_writer.specs.Words.{PrintedWord, Bare, Quoted}

-- a digit of hex, letters in upper case, and octets in hex, two digits each, the high one first
abbrev pub hex_digit : ℕ → ℕ
hex_digit d = if nat_lt d 10 then 48 + d else 55 + d

abbrev pub hex_octet : ℕ → List ℕ
hex_octet b = hex_digit (b / 16) ∷ hex_digit (b % 16) ∷ []

abbrev pub hex_digits : List ℕ → List ℕ
hex_digits os = flat_map hex_octet os

-- octets in base64, in the standard alphabet and padded (RFC 4648 section 4)
abbrev pub base64_text : List ℕ → List ℕ
base64_text os = encode_of standard os

-- octets as `\#`, their count, and their hex digits if they are any (RFC 3597 section 5)
abbrev pub hex_words : List ℕ → List PrintedWord
hex_words [] = []
hex_words (o ∷ os) = Bare (hex_digits (o ∷ os)) ∷ []

abbrev pub octets_words : List ℕ → List PrintedWord
octets_words os = Bare (codes "\\#") ∷ Bare (decimal (length os)) ∷ hex_words os

-- a string, in quotes
abbrev pub string_word : List ℕ → PrintedWord
string_word s = Quoted (escaped s)
