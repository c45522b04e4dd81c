-- A zone that `secure_zone` has written, and that lends its own sets for its denials, is one of those of which the laws of proofs speak
use Rattle.std.specs.Prelude.{◌≡◌, Bool, Some}
use Rattle.zone_proto.specs.declared.nx_proof_kind.NxProofKind.TheVariants as kind
use Rattle.zone_proto.specs.declared.rdata.denial.NSEC3PARAM.{NSEC3PARAM as Nsec3Parameters}
use Rattle.zone_proto.specs.Types.{NSEC, NSEC3}
use Rattle.zone_denial.specs.NsecLaws.{IsNsecZone}
use Rattle.zone_denial.specs.Nsec3Zones.{IsNsec3Zone}
use Rattle.zone_denial.specs.WildcardLaws.{OwnsNone}
use Rattle.zone_response.specs.Queries.{Zone}
use Rattle.response_laws.specs.HashedSayings.{zone_hash, DeniesByNsec3}
use Rattle.response_laws.specs.ProvedSayings.{IsUnreferred, DeniesByNsec}

-- its NSEC sets are a circle, as `nsec_sets` writes it, and it has no sets of NSEC3
abbrev pub NsecZonesDeny : Type 0
NsecZonesDeny = (z : Zone) → z.nx_proof_kind ≡ Some kind.Nsec → z.denials ≡ z.sets → IsNsecZone z.origin z.sets → OwnsNone z.sets NSEC3 → IsUnreferred z → DeniesByNsec z

-- its NSEC3 sets are a circle, as `nsec3_sets` writes it, and it has no sets of NSEC
abbrev pub Nsec3ZonesDeny : Type 0
Nsec3ZonesDeny = (z : Zone) (parameters : Nsec3Parameters) (flag : Bool) → z.nx_proof_kind ≡ Some (kind.Nsec3 parameters.algorithm parameters.salt parameters.iterations flag) → z.denials ≡ z.sets
    → IsNsec3Zone z.origin z.sets (zone_hash z parameters) parameters → OwnsNone z.sets NSEC → IsUnreferred z → DeniesByNsec3 z parameters
