-- What a secondary makes of the steps of a zone
use Rattle.std.specs.Prelude.{◌≡◌, ℕ, true, List, Some, Ok}
use Rattle.zone_proto.specs.Names.{lower}
use Rattle.zone_proto.specs.Sets.{RRset}
use Rattle.zone_proto.specs.Types.{SOA}
use Rattle.zone_proto.specs.declared.record.Record.{Record}
use Rattle.zone_map.specs.Zones.{Sets, set_at}
use Rattle.zone_proto.specs.Serials.{is_newer}
use Rattle.zone_secondary.specs.declared.secondary.Question.TheVariants.{Changes}
use Rattle.shown_zones.specs.Sending.{sent_steps}
use Rattle.shown_zones.specs.Steps.{Step}
use Rattle.transfer_reading.specs.Differences.{Held, all_records, held_of}
use Rattle.transfer_reading.specs.Outcomes.{said_by, zone_of}
use Rattle.transfer_reading.specs.Stages.{behind_all}
use Rattle.transfer_reading.specs.declared.asked.Asked.{Asked}
use Rattle.transfer_reading.specs.declared.stage.Stage.TheVariants.{Before, AllDifferences}
use Rattle.incremental_laws.specs.Holding.{Holds}
use Rattle.incremental_laws.specs.Versions.{Leads}

-- A secondary that asks for what changed since a version is sent the steps from it to a newer one, which is the newest.
pub record IsSent (a : Asked) (held newest : ℕ) (before z : Sets) (steps : List Step) (soa : RRset) : Type 0 where
  pub question : a.question ≡ Changes held
  pub newer : is_newer newest held ≡ true
  pub leads : Leads a.origin held before steps newest z
  pub soa_is : set_at z (lower a.origin) SOA ≡ Some soa

-- It takes them as differences.
abbrev pub StepsAreTaken : Type 0
StepsAreTaken = (a : Asked) (held newest : ℕ) (before z : Sets) (steps : List Step) (soa : RRset) → IsSent a held newest before z steps soa
    → behind_all a Before (sent_steps soa steps) ≡ Ok AllDifferences

-- Applied to the records of the version that it holds, they make the newest one.
abbrev pub StepsMakeTheNewest : Type 0
StepsMakeTheNewest = (a : Asked) (held newest : ℕ) (before z : Sets) (steps : List Step) (soa : RRset) (records : List Record)
    → IsSent a held newest before z steps soa → Holds (held_of records) before
    → (h : Held) × (said_by AllDifferences a.origin (sent_steps soa steps) records ≡ Ok (zone_of (all_records h))) × Holds h z
