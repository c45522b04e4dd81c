-- The signer of the program's demonstrations, which is no cryptography
use Rattle.std.specs.Prelude.{ℕ, ◌+◌, ◌-◌, ◌/◌, ◌%◌, ◌^◌, List, [], ◌∷◌, length, if◌then◌else◌}
use Rattle.zone_proto.specs.declared.rdata.signing.DNSKEY.{DNSKEY}
use Rattle.zone_proto.specs.declared.rdata.signing.RRSIG.{RRSIG}
use Rattle.zone_proto.specs.Names.{Name, is_wildcard}
use Rattle.zone_proto.specs.Signing.{SignedPart}

-- what tells it from another: its number, and the origin of the zone that it signs for
pub record Demo : Type 0 where
  pub number : ℕ
  pub origin : Name

-- the two octets of its number, the high one first, which stand for its key and for each of its signatures
abbrev pub octets_of : Demo → List ℕ
octets_of signer = signer.number / 256 ∷ signer.number % 256 ∷ []

-- its key: one for zones (256), of protocol 3, and of the algorithm 253, which is for private use (RFC 4034 appendix A.1.1)
abbrev pub demo_key : Demo → DNSKEY
demo_key signer = record { flags = 256; protocol = 3; algorithm = 253; public_key = octets_of signer }

-- how many labels an owner has, without the root and a leading `*` (RFC 4034 section 3.1.3)
abbrev pub signed_labels : Name → ℕ
signed_labels owner = length owner - (if is_wildcard owner then 1 else 0)

-- its signature of a set, for the day that begins at a moment, in seconds modulo 2^32 (RFC 4034 section 3.1.5)
abbrev pub demo_signature : Demo → SignedPart → ℕ → RRSIG
demo_signature signer part now = record {
  type_covered = record { 0 = part.record_type };
  algorithm = 253;
  num_labels = signed_labels part.owner;
  original_ttl = part.ttl;
  expiration = (now % 2 ^ 32 + 86400) % 2 ^ 32;
  inception = now % 2 ^ 32;
  key_tag = signer.number;
  signer_name = signer.origin;
  signature = octets_of signer;
}
