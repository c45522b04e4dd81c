-- What the zone of a held plan is once what is handed out is answered
use Rattle.std.specs.Prelude.{◌≡◌, ℕ, List}
use Rattle.zone_proto.specs.Names.{Name}
use Rattle.zone_proto.specs.Signing.{SignedPart}
use Rattle.zone_map.specs.Zones.{Sets}
use Rattle.zone_signing.specs.Secured.{IsSecured}
use Rattle.zone_planning.specs.declared.signer.PlanSigner.{PlanSigner}
use Rattle.zone_planning.specs.Answering.{answering, answers}
use Rattle.zone_planner.specs.declared.keys.PlannedKey.{PlannedKey}
use Rattle.zone_planner.specs.declared.request.Request.{Request}
use Rattle.zone_planner.specs.Keys.{keyed}
use Rattle.zone_planner.specs.Plans.{denied_by}
use Rattle.held_plans.specs.Copies.{unsigned}
use Rattle.held_plans.specs.Holding.{IsBegun, finished_sets}
use Rattle.held_plans.specs.PlanStates.{PlanState}

-- If a plan has the answers of its keys as its signatures, its zone is the one that was planned, without signatures, denials and keys, with the records of these keys and the
-- denials that were asked for, secured by the signers that answer so
abbrev pub FinishedPlansAreSecured : Type 0
FinishedPlansAreSecured = (octets_of : PlanSigner → SignedPart → List ℕ) (origin : Name) (m : Sets) (keys : List PlannedKey) (request : Request) (begun p : PlanState)
    → (is : IsBegun origin m keys request begun) → p.records ≡ begun.records → p.signatures ≡ answers octets_of request.inception is.planned.signers begun.records
    → IsSecured (answering octets_of) request.inception origin is.planned.signers (denied_by request.nx_proof_kind origin (keyed origin keys request (unsigned m))) (finished_sets p)
