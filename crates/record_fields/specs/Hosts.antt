-- Gateways, relays and identities of hosts: fields of several words, whose octets are of a form by the first of them
use Rattle.std.specs.Prelude.{ℕ, ◌+◌, ◌*◌, ◌==◌, List, [], ◌∷◌, ◌++◌, length, nat_le, Option, Some, None, option_and_then, Ok, Err, if◌then◌else◌}
use Rattle.base64.specs.Engines.{standard}
use Rattle.base64.specs.GeneralPurpose.{decoded_of}
use Rattle.zone_proto.specs.Names.{Name}
use Rattle.zone_proto.specs.Data.{same_octets}
use Rattle.line_text.specs.Numbers.{number_within}
use Rattle.zone_tokens.specs.Addresses.{ipv4_of_word, ipv6_of_word}
use Rattle.zone_tokens.specs.Hex.{hex_text}
use Rattle.record_fields.specs.declared.fault.Reason.TheVariants as reason
use Rattle.record_fields.specs.Readings.{fault, ◌>>=◌}
use Rattle.record_fields.specs.Fields.{Left, Reading, next, next_u8}
use Rattle.record_fields.specs.Parts.{next_name_octets, short}

-- Where a host is, by a number: `.` for none, an IPv4 address, an IPv6 address, or a name (RFC 4025 section 2.3, RFC 8777 section
-- 4.2.3). No octets stand for none.
abbrev pub no_host : List ℕ → Option (List ℕ)
no_host w = if same_octets w (46 ∷ []) then Some [] else None

abbrev pub next_host : Name → ℕ → Left → Reading (List ℕ)
next_host origin kind l =
    if kind == 0 then next no_host reason.NoHost l
    else (if kind == 1 then next ipv4_of_word reason.Ipv4 l
    else (if kind == 2 then next ipv6_of_word reason.Ipv6 l
    else (if kind == 3 then next_name_octets origin l
    else Err (fault l.place reason.HostType))))

-- a gateway: its type, an algorithm of the key behind it, and where it is (RFC 4025 section 3.1)
unfoldable pub next_gateway : Name → Left → Reading (List ℕ)
next_gateway origin l = do
  kind ← next_u8 l
  algorithm ← next_u8 kind.1
  host ← next_host origin kind.0 algorithm.1
  Ok (kind.0 ∷ algorithm.0 ∷ host.0, host.1)

-- a relay: the bit by which others are to be found, its type of seven bits in the same octet, and where it is (RFC 8777 section
-- 4.3.1)
abbrev pub next_flag : Left → Reading ℕ
next_flag = next (number_within 10 1) reason.Flag

unfoldable pub next_relay : Name → Left → Reading (List ℕ)
next_relay origin l = do
  discovery ← next_flag l
  kind ← next_u8 discovery.1
  host ← next_host origin kind.0 kind.1
  Ok ((discovery.0 * 128 + kind.0) ∷ host.0, host.1)

-- The identity of a host: the algorithm of its key, its tag in hex, which an octet counts, and the key in base64, which two count
-- (RFC 8005 section 6); the counts come first among the octets (section 5)
abbrev pub if_within : ℕ → List ℕ → Option (List ℕ)
if_within most os = if nat_le (length os) most then Some os else None

abbrev pub tag_of_word : List ℕ → Option (List ℕ)
tag_of_word w = option_and_then (if_within 255) (hex_text w)

abbrev pub key_of_word : List ℕ → Option (List ℕ)
key_of_word w = option_and_then (if_within 65535) (decoded_of standard w)

abbrev pub identity_octets : ℕ → List ℕ → List ℕ → List ℕ
identity_octets algorithm tag key = length tag ∷ algorithm ∷ (short (length key) ++ (tag ++ key))

unfoldable pub next_identity : Left → Reading (List ℕ)
next_identity l = do
  algorithm ← next_u8 l
  tag ← next tag_of_word reason.HostTag algorithm.1
  key ← next key_of_word reason.HostKey tag.1
  Ok (identity_octets algorithm.0 tag.0 key.0, key.1)
