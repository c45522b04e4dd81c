-- Addresses as text, which is how the data of A and AAAA records are read and printed
use Rattle.std.specs.Prelude.{◌≡◌, ℕ, ◌/◌, ◌%◌, ◌++◌, List, [], ◌∷◌, ◌==◌, nat_le, length, map, Option, None, option_map, if◌then◌else◌}
use Rattle.std.specs.Fmt.{decimal}
use Rattle.std.specs.List.{AllByRecursion}
use Rattle.zone_proto.specs.Ranges.{IsOctet}
use Rattle.line_text.specs.Numbers.{number_within}
use Rattle.line_text.specs.Hex.{hex_of_octet}
use Rattle.line_text.specs.Parts.{parts, joined, octets_of_parts}

-- a number from 0 to 255 is one octet
abbrev pub octet_of_text : List ℕ → Option (List ℕ)
octet_of_text s = option_map (λ n. n ∷ []) (number_within 10 255 s)

-- an IPv4 address: four numbers from 0 to 255 with dots between them (RFC 1035 section 3.4.1)
abbrev pub ipv4_of_text : List ℕ → Option (List ℕ)
ipv4_of_text s = if length (parts 46 s) == 4 then octets_of_parts octet_of_text (parts 46 s) else None

-- one to four hex digits
abbrev pub group_of_text : List ℕ → Option ℕ
group_of_text s = if nat_le (length s) 4 then number_within 16 65535 s else None

-- a group is two octets, the high one first
abbrev pub group_octets : ℕ → List ℕ
group_octets g = (g / 256) ∷ (g % 256) ∷ []

abbrev pub octets_of_group : List ℕ → Option (List ℕ)
octets_of_group s = option_map group_octets (group_of_text s)

-- an IPv6 address: eight groups with colons between them, none left out (RFC 4291 section 2.2, its first form)
abbrev pub ipv6_of_text : List ℕ → Option (List ℕ)
ipv6_of_text s = if length (parts 58 s) == 8 then octets_of_parts octets_of_group (parts 58 s) else None

-- an IPv4 address is printed as four numbers with dots between them
abbrev pub ipv4_text : List ℕ → List ℕ
ipv4_text octets = joined 46 (map decimal octets)

-- the groups of octets, four hex digits for two octets each
abbrev pub groups : List ℕ → List (List ℕ)
groups [] = []
groups (b ∷ []) = []
groups (b ∷ c ∷ bs) = (hex_of_octet b ++ hex_of_octet c) ∷ groups bs

-- and an IPv6 address as its eight groups with colons between them, letters in lower case
abbrev pub ipv6_text : List ℕ → List ℕ
ipv6_text octets = joined 58 (groups octets)

-- octets of a count
abbrev pub IsOctets : ℕ → List ℕ → Type 0
IsOctets n bs = (length bs ≡ n) × AllByRecursion IsOctet bs
