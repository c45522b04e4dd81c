-- A zone that is served
use Rattle.std.specs.Prelude.{◌≡◌, ℕ, List, [], map, Option, None, unwrap_or}
use Rattle.zone_proto.specs.declared.nx_proof_kind.NxProofKind.{NxProofKind}
use Rattle.zone_proto.specs.declared.rdata.signing.RRSIG.{RRSIG}
use Rattle.zone_proto.specs.Names.{Name}
use Rattle.zone_proto.specs.Signing.{SignedPart}
use Rattle.zone_map.specs.Zones.{Sets, IsZone}
use Rattle.zone_denial.specs.Chains.{chain_sets}
use Rattle.zone_response.specs.declared.question.ServedZone.{ServedZone}
use Rattle.zone_response.specs.Queries.{zone_of, HasOwnDenials}
use Rattle.zone_response.specs.Queries as queries
use Rattle.zone_builder.specs.DenialKinds as kinds
use Rattle.zone_sha1.specs.declared.sha1_hash.Sha1Hash.{Sha1Hash}
use Rattle.zone_lookup.specs.declared.no_signer.NoSigner.{NoSigner}
use Rattle.zone_database.specs.declared.zone.Zone.{Zone}
use Rattle.zone_database.specs.ChainsBeside.{chain_beside}
use Rattle.zone_sha1.specs.Digests.{name_digest}
use Rattle.zone_signing.specs.Signatures.{answer_signatures}

-- no signer of these zones signs
abbrev pub never_signed : NoSigner → SignedPart → ℕ → ℕ → Option RRSIG
never_signed signer part inception class = None

-- a zone as a query finds it: its denials are looked up among the sets of one chain, where there are others besides
abbrev pub served_zone : Zone → queries.Zone
served_zone z = record { origin = z.origin; sets = z.inner.records; denials = unwrap_or z.denials z.inner.records; nx_proof_kind = z.nx_proof_kind; digest_of = name_digest; sign = λ signed. answer_signatures never_signed 0 signed z.inner.signers }

-- zones as they are asked
abbrev pub IsServed : List Zone → List (ServedZone NoSigner Sha1Hash) → Type 0
IsServed zs served = map (zone_of never_signed (λ h. name_digest)) served ≡ map served_zone zs

-- by what the zone of an origin with these sets denies, whose names are hashed by SHA-1 (RFC 5155 section 11)
abbrev pub denial_kind : Name → Sets → Option NxProofKind
denial_kind origin m = kinds.denial_kind origin m name_digest

-- the zone of an origin with these sets, which nobody signs here
abbrev pub zone_of_records : Name → Sets → Zone
zone_of_records origin sets = record { origin = origin; inner = record { records = sets; signers = [] }; nx_proof_kind = denial_kind origin sets; denials = chain_beside (denial_kind origin sets) sets }

-- its denials are looked up among sets of its own
abbrev pub ZonesHaveOwnDenials : Type 0
ZonesHaveOwnDenials = (origin : Name) (m : Sets) → IsZone m → HasOwnDenials (served_zone (zone_of_records origin m))

-- they are those of its chain, by which it denies
abbrev pub ZonesLendTheirChain : Type 0
ZonesLendTheirChain = (origin : Name) (m : Sets) → let z : queries.Zone = served_zone (zone_of_records origin m) in z.denials ≡ chain_sets z.nx_proof_kind z.sets
