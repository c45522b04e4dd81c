-- What a plan is once its frames are answered
use Rattle.std.specs.Prelude.{◌≡◌, ℕ, List}
use Rattle.zone_proto.specs.Names.{Name}
use Rattle.zone_proto.specs.Signing.{SignedPart}
use Rattle.zone_map.specs.Renewals.{with_signatures}
use Rattle.zone_map.specs.Zones.{Sets}
use Rattle.zone_signing.specs.Secured.{SetsBy, IsSecured}
use Rattle.zone_planning.specs.declared.signer.PlanSigner.{PlanSigner}
use Rattle.zone_planning.specs.Answering.{plans, ArePlanned, AreFound, answering, answers, all_signed}
use Rattle.zone_planning.specs.Filling.{filled}

-- the zone whose sets are signed by these keys and octets, and nothing else of it changes
abbrev pub AnsweredPlansAreSigned : Type 0
AnsweredPlansAreSigned = (octets_of : PlanSigner → SignedPart → List ℕ) (now : ℕ) (signers : List PlanSigner) (m : Sets) → ArePlanned now signers m
    → with_signatures m (filled m (answers octets_of now signers m)) ≡ all_signed octets_of now signers m

-- if it is secured by planning signers, the zone that is secured by the signers that answer so
abbrev pub AnsweredPlansAreSecured : Type 0
AnsweredPlansAreSecured = (octets_of : PlanSigner → SignedPart → List ℕ) (now : ℕ) (origin : Name) (signers : List PlanSigner) (sets : SetsBy) (m : Sets)
    → IsSecured plans now origin signers sets m → AreFound m
    → IsSecured (answering octets_of) now origin signers sets (with_signatures m (filled m (answers octets_of now signers m)))
