-- What a zone has that is signed as it was planned
use Rattle.std.specs.Prelude.{◌≡◌, ℕ, List, IsTrue}
use Rattle.zone_proto.specs.Names.{Name, lower}
use Rattle.zone_proto.specs.Signing.{SignedPart}
use Rattle.zone_proto.specs.Types.{SOA}
use Rattle.zone_map.specs.Zones.{Sets, IsZone, owns}
use Rattle.zone_denial.specs.Chains.{IsNsecChain}
use Rattle.zone_signing.specs.Secured.{IsSecured}
use Rattle.zone_planning.specs.declared.signer.PlanSigner.{PlanSigner}
use Rattle.zone_planning.specs.Answering.{answering}
use Rattle.zone_planner.specs.Plans.{denied_by_names}

-- a zone that is planned with NSEC has a chain of NSEC sets if its origin owns an SOA, whatever octets its signatures have
abbrev pub SignedIsNsecChain : Type 0
SignedIsNsecChain = (octets_of : PlanSigner → SignedPart → List ℕ) (now : ℕ) (origin : Name) (signers : List PlanSigner) (m after : Sets)
    → IsZone m → IsZone after → lower origin ≡ origin → IsTrue (owns m origin SOA)
    → IsSecured (answering octets_of) now origin signers (denied_by_names origin m) after → IsNsecChain origin after
