-- Octets that one word writes: numbers, a tag, octets with separators between them
use Rattle.std.specs.Prelude.{ℕ, ◌/◌, ◌%◌, ◌==◌, ◌&&◌, ◌||◌, not, List, [], ◌∷◌, ◌++◌, filter, length, take, Bool, false, Option, Some, None, option_and_then, option_map, Ok, codes, if◌then◌else◌}
use Rattle.std.specs.Char.{is_ascii_alphanumeric}
use Rattle.std.specs.List.{list_all}
use Rattle.zone_proto.specs.declared.record_type.RecordType.{RecordType}
use Rattle.zone_proto.specs.Data.{same_octets}
use Rattle.zone_proto.specs.Names.{Name, wire_form}
use Rattle.zone_proto.specs.TypeText.{or_else}
use Rattle.line_text.specs.Addresses.{ipv6_of_text}
use Rattle.line_text.specs.Hex.{hex_octet}
use Rattle.line_text.specs.Numbers.{number_within}
use Rattle.zone_tokens.specs.Hex.{hex_text}
use Rattle.zone_tokens.specs.Strings.{with_length}
use Rattle.zone_tokens.specs.Types.{certificate_type_named, digest_type_named, upper}
use Rattle.record_fields.specs.declared.fault.Reason.TheVariants as reason
use Rattle.record_fields.specs.Readings.{◌>>=◌}
use Rattle.record_fields.specs.Fields.{Left, Reading, next, next_name}

-- Numbers of 8, 16 and 32 bits, the high octet first (RFC 1035 section 2.3.2)
abbrev pub octet : ℕ → List ℕ
octet n = n ∷ []

abbrev pub short : ℕ → List ℕ
short n = (n / 256) ∷ (n % 256) ∷ []

abbrev pub long : ℕ → List ℕ
long n = short (n / 65536) ++ short (n % 65536)

-- what was read, as octets
abbrev pub as_octets : {X : Type 0} → (X → List ℕ) → Reading X → Reading (List ℕ)
as_octets octets_of r = r >>= λ x. Ok (octets_of x.0, x.1)

-- a name in wire form, without pointers (RFC 1035 section 3.1, RFC 3597 section 4)
abbrev pub next_name_octets : Name → Left → Reading (List ℕ)
next_name_octets origin l = as_octets wire_form (next_name origin l)

-- the type of a digest, and of a certificate
abbrev pub next_digest_type : Left → Reading ℕ
next_digest_type = next digest_type_named reason.DigestType

abbrev pub next_certificate_type : Left → Reading ℕ
next_certificate_type = next certificate_type_named reason.CertificateType

-- a scheme of notifications, by its number or by the one mnemonic that is registered (RFC 9859 sections 2.2 and 6.2)
abbrev pub scheme_mnemonic : List ℕ → Option ℕ
scheme_mnemonic w = if same_octets w (codes "NOTIFY") then Some 1 else None

abbrev pub scheme_named : List ℕ → Option ℕ
scheme_named w = or_else (number_within 10 255 w) (scheme_mnemonic (upper w))

abbrev pub next_scheme : Left → Reading ℕ
next_scheme = next scheme_named reason.Scheme

-- a type, as its number of 16 bits
abbrev pub type_octets : RecordType → List ℕ
type_octets t = short t.0

-- the tag of a CAA: one letter or digit at least (RFC 8659 section 4.1), behind their count
abbrev pub is_tag : List ℕ → Bool
is_tag [] = false
is_tag (b ∷ s) = list_all is_ascii_alphanumeric (b ∷ s)

abbrev pub tag_of_word : List ℕ → Option (List ℕ)
tag_of_word w = if is_tag w then with_length w else None

abbrev pub next_tag : Left → Reading (List ℕ)
next_tag = next tag_of_word reason.Tag

-- 64 bits as four groups of one to four hex digits with colons between them: those of an IPv6 address with four groups of zeros
-- behind them (RFC 6742 sections 2.1.2 and 2.3.2)
abbrev pub groups_of_word : List ℕ → Option (List ℕ)
groups_of_word w = option_map (take 8) (ipv6_of_text (w ++ codes ":0000:0000:0000:0000"))

abbrev pub next_groups : Left → Reading (List ℕ)
next_groups = next groups_of_word reason.Groups

-- octets of two hex digits each, with hyphens between them, so many (RFC 7043 sections 3.2 and 4.2)
abbrev pub pairs_of : List ℕ → Option (List ℕ)
pairs_of [] = None
pairs_of (c ∷ []) = None
pairs_of (high ∷ low ∷ []) = option_map (λ o. o ∷ []) (hex_octet high low)
pairs_of (high ∷ low ∷ b ∷ rest) =
    if b == 45 then option_and_then (λ o. option_map (λ os. o ∷ os) (pairs_of rest)) (hex_octet high low) else None

abbrev pub of_count : ℕ → List ℕ → Option (List ℕ)
of_count n os = if length os == n then Some os else None

abbrev pub pairs_of_word : ℕ → List ℕ → Option (List ℕ)
pairs_of_word n w = option_and_then (of_count n) (pairs_of w)

abbrev pub next_eui48 : Left → Reading (List ℕ)
next_eui48 = next (pairs_of_word 6) reason.Eui48

abbrev pub next_eui64 : Left → Reading (List ℕ)
next_eui64 = next (pairs_of_word 8) reason.Eui64

-- the address of an access point to a network's services: hex behind `0x`, in which dots mean nothing (RFC 1706 section 7)
abbrev pub without_dots : List ℕ → List ℕ
without_dots w = filter (λ b. not (b == 46)) w

abbrev pub access_point_of_word : List ℕ → Option (List ℕ)
access_point_of_word [] = None
access_point_of_word (z ∷ []) = None
access_point_of_word (z ∷ x ∷ digits) = if z == 48 && (x == 120 || x == 88) then hex_text (without_dots digits) else None

abbrev pub next_access_point : Left → Reading (List ℕ)
next_access_point = next access_point_of_word reason.AccessPoint
