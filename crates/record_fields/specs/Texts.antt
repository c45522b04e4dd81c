-- What stands in the words to the end of an entry: strings, names, address prefixes, hex and base64, and data of any type as `\#`
use Rattle.std.specs.Prelude.{ℕ, ◌==◌, List, [], ◌∷◌, ◌++◌, Bool, false, Option, Some, None, Result, Ok, Err, length, if◌then◌else◌}
use Rattle.base64.specs.Engines.{standard}
use Rattle.base64.specs.GeneralPurpose.{decoded_of}
use Rattle.zone_proto.specs.Data.{same_octets}
use Rattle.zone_proto.specs.Names.{Name, wire_form}
use Rattle.zone_scanner.specs.Entries.{WordText}
use Rattle.zone_tokens.specs.Hex.{hex_text}
use Rattle.zone_tokens.specs.Names.{name_under}
use Rattle.zone_tokens.specs.Strings.{octets_of_text, string_of_word}
use Rattle.record_fields.specs.declared.fault.Reason.TheVariants as reason
use Rattle.record_fields.specs.declared.fault.Fault.{Fault}
use Rattle.record_fields.specs.Readings.{fault, or_else_fault, ◌>>=◌}
use Rattle.record_fields.specs.Fields.{Left, Reading, left_at, named_at, next_any, next_word, next_u16, or_fault}
use Rattle.record_fields.specs.Prefixes.{prefix_of_word}

-- a string of at most 255 octets, in quotes or not, behind their count
abbrev pub next_string : Left → Reading (List ℕ)
next_string = next_any string_of_word reason.Text

-- octets of any count, in quotes or not
abbrev pub next_octets : Left → Reading (List ℕ)
next_octets = next_any octets_of_text reason.Escapes

-- strings, each in quotes or not, to the end of the entry
abbrev pub strings_of : List WordText → Result (List ℕ) Fault
strings_of [] = Ok []
strings_of (w ∷ ws) =
    or_else_fault (string_of_word w.octets) (fault w.place reason.Text) >>= λ s. (strings_of ws >>= λ more. Ok (s ++ more))

-- what is read of all words that are left
abbrev pub none_left : Left → Result (List ℕ) Fault → Reading (List ℕ)
none_left l r = r >>= λ os. Ok (os, left_at l.place [])

-- TXT: one string or more (RFC 1035 section 3.3.14)
abbrev pub some_strings : Left → List WordText → Reading (List ℕ)
some_strings l [] = Err (fault l.place reason.Missing)
some_strings l (w ∷ ws) = none_left l (strings_of (w ∷ ws))

abbrev pub next_strings : Left → Reading (List ℕ)
next_strings l = some_strings l l.words

-- a string, or none
abbrev pub string_if_there : Left → List WordText → Reading (List ℕ)
string_if_there l [] = Ok ([], l)
string_if_there l (w ∷ ws) = next_string l

abbrev pub next_string_if_there : Left → Reading (List ℕ)
next_string_if_there l = string_if_there l l.words

-- names, none or more, to the end of the entry
abbrev pub names_of : Name → List WordText → Result (List ℕ) Fault
names_of origin [] = Ok []
names_of origin (w ∷ ws) =
    if w.quoted then Err (fault w.place reason.Quoted)
    else (named_at w.place (name_under origin w.octets) >>= λ n. (names_of origin ws >>= λ more. Ok (wire_form n ++ more)))

abbrev pub next_names : Name → Left → Reading (List ℕ)
next_names origin l = none_left l (names_of origin l.words)

-- address prefixes, none or more, to the end of the entry (RFC 3123 section 5)
abbrev pub prefixes_of : List WordText → Result (List ℕ) Fault
prefixes_of [] = Ok []
prefixes_of (w ∷ ws) =
    if w.quoted then Err (fault w.place reason.Quoted)
    else (or_else_fault (prefix_of_word w.octets) (fault w.place reason.Prefix) >>= λ os. (prefixes_of ws >>= λ more. Ok (os ++ more)))

abbrev pub next_prefixes : Left → Reading (List ℕ)
next_prefixes l = none_left l (prefixes_of l.words)

-- Base64 and hex, to the end of the entry: "Whitespace is allowed within the Base64 text" (RFC 4034 section 2.2), and so it is
-- in hex (section 5.3). So they are the words that are left, one behind the other, none in quotes. Where they aren't base64 or
-- hex, the fault stands at the first of them.
abbrev pub texts_of : List WordText → Result (List ℕ) Fault
texts_of [] = Ok []
texts_of (w ∷ ws) =
    if w.quoted then Err (fault w.place reason.Quoted) else (texts_of ws >>= λ more. Ok (w.octets ++ more))

abbrev pub next_base64 : Left → Reading (List ℕ)
next_base64 l = do
  first ← next_word l
  more ← texts_of first.1.words
  or_fault (decoded_of standard (first.0.octets ++ more)) reason.Base64 (left_at first.1.place [])

abbrev pub next_hex : Left → Reading (List ℕ)
next_hex l = do
  first ← next_word l
  more ← texts_of first.1.words
  or_fault (hex_text (first.0.octets ++ more)) reason.Hex (left_at first.1.place [])

-- base64, or nothing
abbrev pub base64_if_there : Left → List WordText → Reading (List ℕ)
base64_if_there l [] = Ok ([], l)
base64_if_there l (w ∷ ws) = next_base64 l

abbrev pub next_base64_if_there : Left → Reading (List ℕ)
next_base64_if_there l = base64_if_there l l.words

-- Data of any type: `\#`, how many octets they are, and these in hex, in words of any length (RFC 3597 section 5)
abbrev pub generic : List ℕ
generic = 92 ∷ 35 ∷ []

abbrev pub is_generic : List WordText → Bool
is_generic [] = false
is_generic (w ∷ ws) = if w.quoted then false else same_octets w.octets generic

abbrev pub of_length : ℕ → Option (List ℕ) → Option (List ℕ)
of_length n None = None
of_length n (Some os) = if length os == n then Some os else None

abbrev pub any_hex : List ℕ → Option (List ℕ)
any_hex [] = Some []
any_hex (c ∷ s) = hex_text (c ∷ s)

abbrev pub hex_left : ℕ → Left → Reading (List ℕ)
hex_left n l = texts_of l.words >>= λ t. or_fault (of_length n (any_hex t)) reason.HexOctets (left_at l.place [])

abbrev pub next_generic : Left → Reading (List ℕ)
next_generic l = next_word l >>= λ w. (next_u16 w.1 >>= λ n. hex_left n.0 n.1)
