-- The tags of keys (RFC 4034 appendix B)
use Rattle.std.specs.Prelude.{ℕ, ◌+◌, ◌*◌, ◌/◌, ◌%◌, Bool, true, false, List, [], ◌∷◌}
use Rattle.zone_proto.specs.declared.rdata.signing.DNSKEY.{DNSKEY}
use Rattle.message_writing.specs.DataText.{dnskey_text}

-- the sum of octets, where every second one, the first or the second on, counts 256 times
abbrev pub octet_sum : Bool → List ℕ → ℕ
octet_sum high [] = 0
octet_sum true (x ∷ xs) = x * 256 + octet_sum false xs
octet_sum false (x ∷ xs) = x + octet_sum true xs

-- the tag of data: their sum by pairs of octets, the carry added to it, modulo 2^16
abbrev pub tag_of : List ℕ → ℕ
tag_of octets = let ac = octet_sum true octets in (ac + ac / 65536 % 65536) % 65536

-- the tag of a key: that of its data in wire form (of an algorithm other than 1)
abbrev pub key_tag : DNSKEY → ℕ
key_tag key = tag_of (dnskey_text key)
