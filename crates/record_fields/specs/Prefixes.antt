-- Address prefixes (RFC 3123): `[!]FAMILY:ADDRESS/LENGTH`
use Rattle.std.specs.Prelude.{ℕ, ◌+◌, ◌==◌, ◌&&◌, List, [], ◌∷◌, ◌++◌, length, take, Bool, true, false, Option, Some, None, if◌then◌else◌}
use Rattle.line_text.specs.Numbers.{number_within}
use Rattle.message_reading.specs.Octets.{◌>>=◌}
use Rattle.zone_tokens.specs.Addresses.{ipv4_of_word, ipv6_of_word}
use Rattle.record_fields.specs.Locations.{within}
use Rattle.record_fields.specs.Parts.{short}
use Rattle.record_fields.specs.Signs.{before_sign, behind_sign}

-- an address of a family, 1 for IPv4 and 2 for IPv6, and a length of at most its bits (sections 4.1 and 4.2)
abbrev pub address_of : ℕ → List ℕ → Option (List ℕ)
address_of family w = if family == 1 then ipv4_of_word w else (if family == 2 then ipv6_of_word w else None)

abbrev pub most_bits : ℕ → ℕ
most_bits family = if family == 1 then 32 else 128

abbrev pub length_of : ℕ → List ℕ → Option ℕ
length_of family w = number_within 10 255 w >>= within (most_bits family)

-- "trailing zero octets" of an address are left out (section 4)
abbrev pub used : List ℕ → ℕ
used [] = 0
used (b ∷ os) = if used os == 0 && b == 0 then 0 else used os + 1

abbrev pub without_zeros : List ℕ → List ℕ
without_zeros os = take (used os) os

-- in octets: the family, the length, a bit that negates and the count of the octets of the address in the same octet, and these
-- (section 4)
abbrev pub count_octet : Bool → ℕ → ℕ
count_octet negated count = if negated then 128 + count else count

abbrev pub prefix_octets : Bool → ℕ → ℕ → List ℕ → List ℕ
prefix_octets negated family bits address = short family ++ (bits ∷ count_octet negated (length address) ∷ address)

abbrev pub prefix_of_family : Bool → ℕ → List ℕ → Option (List ℕ)
prefix_of_family negated family w =
    address_of family (before_sign 47 w) >>= λ address.
    length_of family (behind_sign 47 w) >>= λ bits.
    Some (prefix_octets negated family bits (without_zeros address))

abbrev pub with_family : Bool → List ℕ → Option (List ℕ)
with_family negated w = number_within 10 65535 (before_sign 58 w) >>= λ family. prefix_of_family negated family (behind_sign 58 w)

-- a prefix, of which `!` in front says that it is negated (section 5)
unfoldable pub prefix_of_word : List ℕ → Option (List ℕ)
prefix_of_word [] = None
prefix_of_word (b ∷ w) = if b == 33 then with_family true w else with_family false (b ∷ w)
