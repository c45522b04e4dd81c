-- What a zone has that is signed as it was planned, with NSEC3
use Rattle.std.specs.Prelude.{◌≡◌, ℕ, List, Some, IsTrue}
use Rattle.zone_proto.specs.declared.nx_proof_kind.NxProofKind.TheVariants as kind
use Rattle.zone_proto.specs.declared.rdata.denial.NSEC3PARAM.{NSEC3PARAM as Nsec3Parameters}
use Rattle.zone_proto.specs.Names.{Name}
use Rattle.zone_proto.specs.Signing.{SignedPart}
use Rattle.zone_proto.specs.Types.{SOA, NSEC}
use Rattle.zone_map.specs.Zones.{Sets, IsZone, owns}
use Rattle.zone_sha1.specs.Digests.{name_digest}
use Rattle.zone_denial.specs.Chains.{chain_sets, IsNsec3Chain}
use Rattle.zone_denial.specs.Nsec3Names.{nsec3_names}
use Rattle.zone_denial.specs.Nsec3Zones.{hash_with, IsCircleName, HasDistinctDigests}
use Rattle.zone_denial.specs.WildcardLaws.{OwnsNone}
use Rattle.zone_signing.specs.Secured.{IsSecured}
use Rattle.zone_planning.specs.declared.signer.PlanSigner.{PlanSigner}
use Rattle.zone_planning.specs.Answering.{answering}
use Rattle.zone_planner.specs.Plans.{denied_by_hashes}

-- a zone that is planned with NSEC3, with opt-out or without, has a chain of NSEC3 sets if its origin owns an SOA, whatever octets its
-- signatures have, where the hash tells the names of the chain apart
abbrev pub SignedIsNsec3Chain : Type 0
SignedIsNsec3Chain = (octets_of : PlanSigner → SignedPart → List ℕ) (now : ℕ) (origin : Name) (signers : List PlanSigner) (beside m after : Sets) (p : Nsec3Parameters)
    → IsZone after → IsTrue (owns m origin SOA) → HasDistinctDigests (IsCircleName origin m p.opt_out) (hash_with name_digest p)
    → IsSecured (answering octets_of) now origin signers (denied_by_hashes origin m p) after
    → IsNsec3Chain origin beside after (hash_with name_digest p) p (nsec3_names origin after p.opt_out)

-- and its sets are all of that chain, where no name owned NSEC
abbrev pub SignedNsec3SetsStay : Type 0
SignedNsec3SetsStay = (octets_of : PlanSigner → SignedPart → List ℕ) (now : ℕ) (origin : Name) (signers : List PlanSigner) (m after : Sets) (p : Nsec3Parameters)
    → IsZone after → IsTrue (owns m origin SOA) → OwnsNone m NSEC → HasDistinctDigests (IsCircleName origin m p.opt_out) (hash_with name_digest p)
    → IsSecured (answering octets_of) now origin signers (denied_by_hashes origin m p) after
    → chain_sets (Some (kind.Nsec3 p.algorithm p.salt p.iterations p.opt_out)) after ≡ after
