-- Data printed by a row of the table, field by field: the words that the octets at the front are printed as, and the octets behind
-- them; none if the octets don't begin with such a field
use Rattle.std.specs.Prelude.{ℕ, zero, suc, ◌+◌, ◌/◌, ◌%◌, ◌==◌, ◌&&◌, List, [], ◌∷◌, ◌++◌, map, length, take, drop, nat_lt, codes, Option, Some, None, option_map, if◌then◌else◌}
use Rattle.std.specs.Fmt.{decimal}
use Rattle.std.specs.List.{flat_map}
use Rattle.zone_proto.specs.Text.{name_text}
use Rattle.line_text.specs.Addresses.{ipv4_text, ipv6_text}
use Rattle.line_text.specs.Hex.{hex_of_octet}
use Rattle.message_reading.specs.Octets.{◌>>=◌, octet_of, octets_of, short_of, long_of, counted_of}
use Rattle.record_fields.specs.declared.field.Field.{Field}
use Rattle.record_fields.specs.declared.field.Field.TheVariants as F
use Rattle.record_fields.specs.declared.field.Ending.{Ending}
use Rattle.record_fields.specs.declared.field.Ending.TheVariants as E
use Rattle.record_fields.specs.declared.table.Row.{Row}
use Rattle.record_fields.specs.Fields.{is_of_messages}
use Rattle.record_fields.specs.Parts.{is_tag}
use Rattle.record_fields.specs.Rows.{fields_of, row_of}
use Rattle.zone_file_writer.specs.Addresses.{address_text}
use Rattle.zone_file_writer.specs.Labels.{is_wire_form, labels_of}
use Rattle.zone_file_writer.specs.Locations.{location_words}
use Rattle.zone_file_writer.specs.Others.{base64_text, hex_digits, octets_words, string_word}
use Rattle.zone_file_writer.specs.Parameters.{parameters_words}
use Rattle.zone_file_writer.specs.Prefixes.{prefixes_within}
use Rattle.zone_file_writer.specs.Strings.{escaped, strings_of}
use Rattle.zone_file_writer.specs.TypeLists.{types_words}
use Rattle.zone_file_writer.specs.Words.{PrintedWord, Bare, type_word, word_text}

-- one word of what was read at the front
abbrev pub one_word : {X : Type 0} → (X → PrintedWord) → Option (X × List ℕ) → Option (List PrintedWord × List ℕ)
one_word word r = r >>= λ x. Some (word x.0 ∷ [], x.1)

abbrev pub number_word : ℕ → PrintedWord
number_word n = Bare (decimal n)

-- the name at the front of octets: the strings up to one without octets, if these are the wire form of a name
abbrev pub name_length : List (List ℕ) → Option ℕ
name_length [] = None
name_length ([] ∷ ss) = Some 1
name_length ((b ∷ l) ∷ ss) = option_map (λ n. length (b ∷ l) + 1 + n) (name_length ss)

abbrev pub if_name : List ℕ → ℕ → Option (List ℕ × List ℕ)
if_name os n = if is_wire_form (take n os) then Some (take n os, drop n os) else None

abbrev pub name_front : List ℕ → Option (List ℕ × List ℕ)
name_front os = name_length (strings_of os).0 >>= if_name os

abbrev pub name_word : List ℕ → PrintedWord
name_word os = Bare (name_text (labels_of os))

-- the tag of a CAA
abbrev pub if_tag : List ℕ × List ℕ → Option (List PrintedWord × List ℕ)
if_tag s = if is_tag s.0 then Some (Bare (escaped s.0) ∷ [], s.1) else None

-- a type, if records have it
abbrev pub if_type : ℕ × List ℕ → Option (List PrintedWord × List ℕ)
if_type x = if is_of_messages x.0 then None else Some (Bare (type_word x.0) ∷ [], x.1)

-- octets in hex with hyphens between them
abbrev pub further_pairs : List ℕ → List ℕ
further_pairs = flat_map (λ o. 45 ∷ hex_of_octet o)

abbrev pub pairs_text : List ℕ → List ℕ
pairs_text [] = []
pairs_text (o ∷ os) = hex_of_octet o ++ further_pairs os

abbrev pub pairs_word : List ℕ → PrintedWord
pairs_word os = Bare (pairs_text os)

-- where a host is, by the number that says how that is written
abbrev pub host_word : ℕ → List ℕ → Option (PrintedWord × List ℕ)
host_word kind os =
    if kind == 0 then Some (Bare (codes "."), os)
    else (if kind == 1 then (octets_of 4 os >>= λ a. Some (Bare (ipv4_text a.0), a.1))
    else (if kind == 2 then (octets_of 16 os >>= λ a. Some (Bare (address_text a.0), a.1))
    else (if kind == 3 then (name_front os >>= λ n. Some (name_word n.0, n.1))
    else None)))

abbrev pub one_host : Option (PrintedWord × List ℕ) → Option (List PrintedWord × List ℕ)
one_host = one_word (λ w. w)

-- a gateway (RFC 4025 section 2) and a relay (RFC 8777 section 4.2)
abbrev pub behind_numbers : ℕ → ℕ → Option (PrintedWord × List ℕ) → Option (List PrintedWord × List ℕ)
behind_numbers m n host = host >>= λ h. Some (number_word m ∷ number_word n ∷ h.0 ∷ [], h.1)

abbrev pub gateway_words : List ℕ → Option (List PrintedWord × List ℕ)
gateway_words os =
    octet_of os >>= λ kind.
    octet_of kind.1 >>= λ algorithm.
    behind_numbers kind.0 algorithm.0 (host_word kind.0 algorithm.1)

abbrev pub relay_words : List ℕ → Option (List PrintedWord × List ℕ)
relay_words os = octet_of os >>= λ b. behind_numbers (b.0 / 128) (b.0 % 128) (host_word (b.0 % 128) b.1)

-- the identity of a host, whose tag and key have an octet at least each (RFC 8005 section 5)
abbrev pub identity_parts : ℕ → List ℕ → List ℕ → List ℕ → Option (List PrintedWord × List ℕ)
identity_parts algorithm tag key rest =
    if nat_lt 0 (length tag) && nat_lt 0 (length key) then
    Some (number_word algorithm ∷ Bare (hex_digits tag) ∷ Bare (base64_text key) ∷ [], rest)
    else None

abbrev pub tag_and_key : ℕ → ℕ → List ℕ → Option (List PrintedWord × List ℕ)
tag_and_key count algorithm os =
    short_of os >>= λ size.
    octets_of count size.1 >>= λ tag.
    octets_of size.0 tag.1 >>= λ key.
    identity_parts algorithm tag.0 key.0 key.1

abbrev pub identity_words : List ℕ → Option (List PrintedWord × List ℕ)
identity_words os =
    octet_of os >>= λ count.
    octet_of count.1 >>= λ algorithm.
    tag_and_key count.0 algorithm.0 algorithm.1

-- a field
abbrev pub field_words : Field → List ℕ → Option (List PrintedWord × List ℕ)
field_words F.Number8 os = one_word number_word (octet_of os)
field_words F.Number16 os = one_word number_word (short_of os)
field_words F.Number32 os = one_word number_word (long_of os)
field_words F.Algorithm os = one_word number_word (octet_of os)
field_words F.DigestType os = one_word number_word (octet_of os)
field_words F.CertificateType os = one_word number_word (short_of os)
field_words F.RecordType os = short_of os >>= if_type
field_words F.Scheme os = one_word number_word (octet_of os)
field_words F.Ipv4 os = one_word (λ a. Bare (ipv4_text a)) (octets_of 4 os)
field_words F.Name os = one_word name_word (name_front os)
field_words F.Text os = one_word string_word (counted_of os)
field_words F.Tag os = counted_of os >>= if_tag
field_words F.Groups os = one_word (λ g. Bare (ipv6_text g)) (octets_of 8 os)
field_words F.Eui48 os = one_word pairs_word (octets_of 6 os)
field_words F.Eui64 os = one_word pairs_word (octets_of 8 os)
field_words F.Gateway os = gateway_words os
field_words F.Relay os = relay_words os
field_words F.Identity os = identity_words os

-- strings to the end, one or more
abbrev pub all_strings : List (List ℕ) × List ℕ → Option (List PrintedWord)
all_strings ([], rest) = None
all_strings (s ∷ ss, []) = Some (map string_word (s ∷ ss))
all_strings (s ∷ ss, o ∷ rest) = None

-- a string alone
abbrev pub string_alone : Option (List ℕ × List ℕ) → Option (List PrintedWord)
string_alone None = None
string_alone (Some (s, [])) = Some (string_word s ∷ [])
string_alone (Some (s, o ∷ rest)) = None

-- names to the end, none or more
abbrev pub names_within : ℕ → List ℕ → Option (List PrintedWord)
names_within n [] = Some []
names_within zero (b ∷ os) = None
names_within (suc n) (b ∷ os) = name_front (b ∷ os) >>= λ x. option_map (λ ws. name_word x.0 ∷ ws) (names_within n x.1)

-- what stands behind the fields
abbrev pub ending_words : Ending → List ℕ → Option (List PrintedWord)
ending_words E.Nothing [] = Some []
ending_words E.Nothing (b ∷ os) = None
ending_words E.Texts os = all_strings (strings_of os)
ending_words E.TextIfThere [] = Some []
ending_words E.TextIfThere (b ∷ os) = string_alone (counted_of (b ∷ os))
ending_words E.Octets os = Some (string_word os ∷ [])
ending_words E.Hex [] = None
ending_words E.Hex (b ∷ os) = Some (Bare (hex_digits (b ∷ os)) ∷ [])
ending_words E.Base64 [] = None
ending_words E.Base64 (b ∷ os) = Some (Bare (base64_text (b ∷ os)) ∷ [])
ending_words E.Base64IfThere [] = Some []
ending_words E.Base64IfThere (b ∷ os) = Some (Bare (base64_text (b ∷ os)) ∷ [])
ending_words E.Names os = names_within (length os) os
ending_words E.Parameters os = parameters_words os
ending_words E.Types os = types_words os
ending_words E.Location os = location_words os
ending_words E.Prefixes os = prefixes_within (length os) os
ending_words E.AccessPoint [] = None
ending_words E.AccessPoint (b ∷ os) = Some (Bare (48 ∷ 120 ∷ hex_digits (b ∷ os)) ∷ [])

-- fields, one behind the other, and what stands behind them
abbrev pub fields_words : List Field → Ending → List ℕ → Option (List PrintedWord)
fields_words [] e os = ending_words e os
fields_words (f ∷ fs) e os = field_words f os >>= λ x. option_map (λ ws. x.0 ++ ws) (fields_words fs e x.1)

abbrev pub row_words : Row → List ℕ → Option (List PrintedWord)
row_words r os = fields_words (fields_of r.1) r.2 os

-- data of a type: in the form of the type where the octets are of that form and are some word, and else as `\#`
abbrev pub some_words : Option (List PrintedWord) → Option (List PrintedWord)
some_words None = None
some_words (Some []) = None
some_words (Some (w ∷ ws)) = Some (w ∷ ws)

abbrev pub words_by_row : Option Row → List ℕ → Option (List PrintedWord)
words_by_row None os = None
words_by_row (Some r) os = some_words (row_words r os)

abbrev pub words_or_octets : List ℕ → Option (List PrintedWord) → List PrintedWord
words_or_octets os None = octets_words os
words_or_octets os (Some ws) = ws

abbrev pub other_words : ℕ → List ℕ → List PrintedWord
other_words t os = words_or_octets os (words_by_row (row_of t) os)

-- words, each with a space before it
abbrev pub behind_spaces : List PrintedWord → List ℕ
behind_spaces = flat_map (λ w. 32 ∷ word_text w)

-- a text with the words of a field behind it, and the octets behind the field
abbrev pub appended : List ℕ → Option (List PrintedWord × List ℕ) → Option (List ℕ × List ℕ)
appended text r = option_map (λ x. (text ++ behind_spaces x.0, x.1)) r

-- a text with the words of an ending behind it
abbrev pub ended : List ℕ → Option (List PrintedWord) → Option (List ℕ)
ended text r = option_map (λ ws. text ++ behind_spaces ws) r
