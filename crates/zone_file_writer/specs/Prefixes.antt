-- Address prefixes (RFC 3123 section 5), printed
use Rattle.std.specs.Prelude.{ℕ, zero, suc, ◌+◌, ◌%◌, ◌==◌, ◌&&◌, nat_le, List, [], ◌∷◌, ◌++◌, replicate, Bool, Option, Some, None, option_map, if◌then◌else◌}
use Rattle.std.specs.Fmt.{decimal}
use Rattle.line_text.specs.Addresses.{ipv4_text}
use Rattle.message_reading.specs.Octets.{◌>>=◌, octet_of, octets_of, short_of}
use Rattle.record_fields.specs.Prefixes.{prefix_of_word}
use Rattle.zone_file_writer.specs.Addresses.{address_text}
use Rattle.zone_file_writer.specs.BareWords.{is_bare}
use Rattle.zone_file_writer.specs.Locations.{is_octets}
use Rattle.zone_file_writer.specs.Words.{PrintedWord, Bare}

-- the octets of the prefix at the front, and those behind it: the lower seven bits of the fourth octet say how many follow it
abbrev pub item_front : List ℕ → Option (List ℕ × List ℕ)
item_front os =
    short_of os >>= λ family.
    octet_of family.1 >>= λ bits.
    octet_of bits.1 >>= λ count.
    octets_of (4 + count.0 % 128) os

-- the address in front of octets, of IPv4 or IPv6; nothing of another family
abbrev pub front_text : (List ℕ → List ℕ) → Option (List ℕ × List ℕ) → List ℕ
front_text text None = []
front_text text (Some x) = text x.0

abbrev pub family_text : ℕ → List ℕ → List ℕ
family_text family os =
    if family == 1 then front_text ipv4_text (octets_of 4 os)
    else (if family == 2 then front_text address_text (octets_of 16 os) else [])

-- with the octets of zero behind it that were left out
abbrev pub with_zeros : List ℕ → List ℕ
with_zeros os = os ++ replicate 16 0

-- what the octets of a prefix say, in its form
abbrev pub negation_text : Bool → List ℕ
negation_text negated = if negated then 33 ∷ [] else []

abbrev pub prefix_text : List ℕ → Option (List ℕ)
prefix_text os =
    short_of os >>= λ family.
    octet_of family.1 >>= λ bits.
    octet_of bits.1 >>= λ count.
    Some (negation_text (nat_le 128 count.0) ++ (decimal family.0 ++ (58 ∷ (family_text family.0 (with_zeros count.1) ++ (47 ∷ decimal bits.0)))))

-- A prefix is printed so where the word is read as the same octets. Others, as such of another family or with an octet of zero at
-- its end, have no form but `\#`.
abbrev pub without_sign : List ℕ → List ℕ
without_sign [] = []
without_sign (b ∷ t) = if b == 33 then t else b ∷ t

abbrev pub word_if_read : List ℕ → List ℕ → Option PrintedWord
word_if_read item t = if is_bare (without_sign t) && is_octets item (prefix_of_word t) then Some (Bare t) else None

abbrev pub prefix_word : List ℕ → Option PrintedWord
prefix_word item = prefix_text item >>= word_if_read item

abbrev pub prefix_front : List ℕ → Option (PrintedWord × List ℕ)
prefix_front os = item_front os >>= λ x. prefix_word x.0 >>= λ w. Some (w, x.1)

-- prefixes to the end, none or more
abbrev pub prefixes_within : ℕ → List ℕ → Option (List PrintedWord)
prefixes_within n [] = Some []
prefixes_within zero (b ∷ os) = None
prefixes_within (suc n) (b ∷ os) = prefix_front (b ∷ os) >>= λ x. option_map (λ ws. x.0 ∷ ws) (prefixes_within n x.1)
