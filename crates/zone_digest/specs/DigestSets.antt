-- The ZONEMD set of a zone (RFC 8976 sections 2 and 3.1)
use Rattle.std.specs.Prelude.{ℕ, List, [], ◌∷◌, Option, refl}
use Rattle.std.specs.Option.{option_map_or}
use Rattle.zone_proto.specs.declared.rdata.RData.TheVariants as V
use Rattle.zone_proto.specs.declared.rdata.signing.RRSIG.{RRSIG}
use Rattle.zone_proto.specs.Names.{Name}
use Rattle.zone_proto.specs.Sets.{RRset, empty_set, record_of}
use Rattle.zone_proto.specs.Signing.{SignedPart}
use Rattle.zone_map.specs.Zones.{Sets}
use Rattle.zone_lookup.specs.StartOfAuthority.{first_soa}
use Rattle.zone_signing.specs.Signatures.{signatures}
use Rattle.zone_digest.specs.declared.digests.DigestAlgorithm.{DigestAlgorithm}
use Rattle.zone_digest.specs.ZoneDigests.{zone_digest, zonemd_text}
use Rattle.zone_digest.specs.ZoneText.{zonemd_type}

-- a ZONEMD set of one record with these data, without signatures
abbrev pub zonemd_set : (origin : Name) (ttl serial : ℕ) → List ℕ → RRset
zonemd_set origin ttl serial octets =
    let none = record (empty_set origin zonemd_type serial) { ttl = ttl } in
    record none { records = record_of none (V.Other (record { record_type = record { 0 = zonemd_type }; octets = octets; other = refl })) ∷ [] }

-- the serial of the SOA of a set, 0 without one
abbrev pub serial_of : RRset → ℕ
serial_of start = option_map_or (λ a. a.serial) (first_soa start.records) 0

-- the ZONEMD set of a zone whose SOA is that of this set: with its serial and TTL, and with the zone's digest
abbrev pub digest_set : DigestAlgorithm → Name → Sets → RRset → RRset
digest_set algorithm origin m start = zonemd_set origin start.ttl (serial_of start) (zonemd_text (serial_of start) algorithm (zone_digest algorithm origin m))

-- a set with the signatures of signers in place of its own
abbrev pub signed_by : {S : Type 0} (signature_of : S → SignedPart → ℕ → ℕ → Option RRSIG) (now : ℕ) → List S → RRset → RRset
signed_by signature_of now signers s = record s { signatures = signatures signature_of now signers s }
