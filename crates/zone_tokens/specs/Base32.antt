-- Octets written in base32hex without padding (RFC 4648 section 7, RFC 5155 section 3.3)
use Rattle.std.specs.Prelude.{ℕ, ◌+◌, ◌-◌, ◌*◌, ◌/◌, ◌%◌, ◌^◌, List, length, map, slice_index, Option, Some, None, if◌then◌else◌}
use Rattle.std.specs.Char.{is_digit, digit_value, to_ascii_lowercase}
use Rattle.std.specs.List.{range_with_len}
use Rattle.zone_proto.specs.Base32.{base32_text}
use Rattle.zone_proto.specs.Data.{same_octets}

-- the number of five bits that a character stands for: `0` to `9` and then `a` to `v`, in either case; 0 for any other octet
abbrev pub five_bits_of : ℕ → ℕ
five_bits_of c = if is_digit c 32 then digit_value c else 0

abbrev pub five_bits_at : List ℕ → ℕ → ℕ
five_bits_at w k = five_bits_of (slice_index w k)

-- the eight bits of a word from this one on, the first the highest: the characters stand for five each
abbrev pub octet_from : List ℕ → ℕ → ℕ
octet_from w i =
    (five_bits_at w (i / 5) * 1024 + five_bits_at w (i / 5 + 1) * 32 + five_bits_at w (i / 5 + 2)) / 2 ^ (7 - i % 5) % 256

-- the octets that a word has the bits of, the bits that are left over left out
abbrev pub octets_in : List ℕ → List ℕ
octets_in w = map (λ k. octet_from w (k * 8)) (range_with_len 0 (length w * 5 / 8))

-- the octets that a word is the text of in base32hex, letters in either case; none if it is the text of none
abbrev pub base32_octets : List ℕ → Option (List ℕ)
base32_octets w = if same_octets (base32_text (octets_in w)) (map to_ascii_lowercase w) then Some (octets_in w) else None
