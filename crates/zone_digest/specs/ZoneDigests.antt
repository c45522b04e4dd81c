-- The digest of a zone, and the data of its ZONEMD record (RFC 8976 section 2.2)
use Rattle.std.specs.Prelude.{ℕ, List, ◌∷◌, ◌++◌}
use Rattle.sha2.specs.Sha512.{sha384, sha512}
use Rattle.zone_proto.specs.Names.{Name}
use Rattle.zone_map.specs.Zones.{Sets}
use Rattle.message_writing.specs.DataText.{long_text}
use Rattle.zone_digest.specs.declared.digests.DigestAlgorithm.{DigestAlgorithm}
use Rattle.zone_digest.specs.declared.digests.DigestAlgorithm.TheVariants.{Sha384, Sha512}
use Rattle.zone_digest.specs.ZoneText.{zone_text}

-- the numbers of the algorithms (RFC 8976 section 2.2.3)
abbrev pub algorithm_number : DigestAlgorithm → ℕ
algorithm_number Sha384 = 1
algorithm_number Sha512 = 2

-- how many octets their digests have
abbrev pub digest_length : DigestAlgorithm → ℕ
digest_length Sha384 = 48
digest_length Sha512 = 64

abbrev pub digest_by : DigestAlgorithm → List ℕ → List ℕ
digest_by Sha384 octets = sha384 octets
digest_by Sha512 octets = sha512 octets

-- over all records of the zone at once, which is the scheme SIMPLE (RFC 8976 section 2.2.2)
abbrev pub zone_digest : DigestAlgorithm → Name → Sets → List ℕ
zone_digest algorithm origin m = digest_by algorithm (zone_text origin m)

-- the zone's serial, the number 1 of that scheme, the number of the algorithm, and the digest
abbrev pub zonemd_text : ℕ → DigestAlgorithm → List ℕ → List ℕ
zonemd_text serial algorithm digest = long_text serial ++ (1 ∷ algorithm_number algorithm ∷ digest)
