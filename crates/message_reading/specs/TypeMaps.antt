-- Type bit maps (RFC 4034 section 4.1.2): blocks of a window number, a count from 1 to 32, and that many octets of bits
use Rattle.std.specs.Prelude.{ℕ, zero, suc, ◌+◌, ◌-◌, ◌*◌, ◌&&◌, ◌||◌, not, ◌==◌, Bool, true, false, List, [], ◌∷◌, ◌++◌, length, slice_index, nat_le, map, Option, Some, None, if◌then◌else◌}
use Rattle.zone_proto.specs.declared.record_type.RecordType.{RecordType}
use Rattle.message_reading.specs.Octets.{◌>>=◌, octet_of, octets_of}
use Rattle.message_reading.specs.Headers.{has_bit}

-- a type that no data of a zone have, OPT and those of queries alone: its bit is passed over where a map is read
abbrev pub is_passed_over : ℕ → Bool
is_passed_over t = t == 41 || (nat_le 249 t && nat_le t 255)

-- the number of a bit, if it is set
abbrev pub bit_of : ℕ → Bool → List ℕ
bit_of n set = if set && not (is_passed_over n) then n ∷ [] else []

-- the weights of the bits of an octet: bit 0 is the one of the greatest
abbrev pub weights : List ℕ
weights = 128 ∷ 64 ∷ 32 ∷ 16 ∷ 8 ∷ 4 ∷ 2 ∷ 1 ∷ []

-- the numbers of the bits that are set, where the bits of these weights are numbered from n on
abbrev pub set_bits : List ℕ → ℕ → ℕ → List ℕ
set_bits [] n octet = []
set_bits (w ∷ ws) n octet = bit_of n (has_bit w octet) ++ set_bits ws (n + 1) octet

-- the same of octets, the bits of one numbered on from those of the one before
abbrev pub bits_from : ℕ → List ℕ → List ℕ
bits_from n [] = []
bits_from n (octet ∷ octets) = set_bits weights n octet ++ bits_from (n + 8) octets

-- the last of the octets is not 0: there are some, and trailing octets of zeros are left out
abbrev pub ends_in_bits : List ℕ → Bool
ends_in_bits octets = not (slice_index octets (length octets - 1) == 0)

-- the octets of a block, and what follows them
abbrev pub block_of : List ℕ → Option (List ℕ × List ℕ)
block_of octets =
    octet_of octets >>= λ count.
    octets_of count.0 count.1 >>= λ bits.
    if nat_le count.0 32 && ends_in_bits bits.0 then Some bits else None

abbrev pub if_ascending : Bool → List ℕ → Option (List ℕ × List ℕ)
if_ascending true octets = block_of octets
if_ascending false octets = None

-- The numbers of the types to the end of the octets, in so many steps at most: each block and the end is one. The windows ascend: none
-- is below the one that is named.
unfoldable pub types_within : ℕ → ℕ → List ℕ → Option (List ℕ)
types_within zero lowest octets = None
types_within (suc steps) lowest [] = Some []
types_within (suc steps) lowest (window ∷ rest) =
    if_ascending (nat_le lowest window) rest >>= λ bits.
    types_within steps (window + 1) bits.1 >>= λ more.
    Some (bits_from (window * 256) bits.0 ++ more)

-- the type of a number
abbrev pub type_numbered : ℕ → RecordType
type_numbered t = record { 0 = t }

-- the types of a map, which has a block for each of the 256 windows at most, and an end
unfoldable pub types_of : List ℕ → Option (List RecordType)
types_of octets = types_within 257 0 octets >>= λ ts. Some (map type_numbered ts)
