-- Laws of updates of signed zones that a program has in steps
use Rattle.std.specs.Prelude.{◌≡◌, ◌⊎◌, ◌++◌, ℕ, true, List, [], ◌∷◌, Option, Some}
use Rattle.std.specs.List.{find}
use Rattle.arrival_calls.specs.declared.client.ClientMessage.{ClientMessage}
use Rattle.zone_proto.specs.Names.{Name}
use Rattle.zone_map.specs.Zones.{Sets}
use Rattle.zone_difference.specs.Laws.{last_of}
use Rattle.zone_journal.specs.Journals.{IsJournal}
use Rattle.zone_database.specs.declared.zone.Zone.{Zone}
use Rattle.zone_database.specs.Databases.{begins_at}
use Rattle.held_plans.specs.Holding.{finished_sets, made_plan}
use Rattle.held_plans.specs.PlanStates.{PlanState}
use Rattle.held_updates.specs.declared.access.UpdateAccess.{UpdateAccess}
use Rattle.held_updates.specs.declared.planned.UpdatedZone.{UpdatedZone}
use Rattle.plan_calls.specs.declared.signing_plan.SigningPlan.{SigningPlan}
use Rattle.plan_calls.specs.SigningPlans.{whole}
use Rattle.plan_calls.specs.Versions.{IsFinishedVersion}
use Rattle.update_denials.specs.declared.preparing.Prepared.{Prepared}
use Rattle.update_denials.specs.declared.preparing.Signing.{Signing}
use Rattle.signed_updates.specs.Laws.{IsPreparedFor}
use Rattle.signed_versions.specs.Asking.{IsAskedFor}
use Rattle.signed_versions.specs.Versions.{VersionState}
use Rattle.signed_calls.specs.declared.outcome.PrepareOutcome.{PrepareOutcome}
use Rattle.signed_calls.specs.Preparing.{PreparesZones, Told}
use Rattle.signed_calls.specs.Signing.{Waits}
use Rattle.signed_calls.specs.Versions.{version_plan}

-- a plan is of the whole signed zone after an update that was permitted
abbrev pub IsPlanOfZone : UpdateAccess → Name → Signing → ClientMessage → List Zone → SigningPlan → Type 0
IsPlanOfZone access origin signing m zs s =
    (q : Prepared) × IsPreparedFor access origin signing m.moment m.octets.now zs q × (s ≡ whole (made_plan origin q.serial q.plan.records q.plan.keys.items))

-- or of what such an update changes of it, which was made in a version of the zone
abbrev pub IsPlanOfVersion : UpdateAccess → Name → Signing → ClientMessage → List Zone → SigningPlan → Type 0
IsPlanOfVersion access origin signing m zs s =
    (v : VersionState) × (octets : List ℕ) × IsAskedFor access origin signing.keys.items signing.request m.moment m.octets.now zs v octets × (s ≡ version_plan v)

-- a plan that is held is one of these two
abbrev pub PreparedAreHeld : Type 0
PreparedAreHeld = (access : UpdateAccess) (origin : Name) (signing : Signing) (m : ClientMessage) (zs : List Zone) (outcome : PrepareOutcome) (told : Told) (update : Option UpdatedZone)
    (s : SigningPlan) → PreparesZones access origin signing m zs outcome told update (Some s) → IsPlanOfZone access origin signing m zs s ⊎ IsPlanOfVersion access origin signing m zs s

-- the frame of a zone that waits, put behind the journal of the versions that led to the one before, makes it the journal of one more
abbrev pub WaitingGrowJournals : Type 0
WaitingGrowJournals = (p : PlanState) (zs : List Zone) (u : UpdatedZone) (z : Zone) (a : Sets) (bs : List Sets) (journal : List ℕ) → Waits p zs u → find (begins_at p.origin) zs ≡ Some z
    → IsJournal p.origin a bs journal → last_of a bs ≡ z.inner.records → IsJournal p.origin a (bs ++ finished_sets p ∷ []) (journal ++ u.frame.items)

-- the same of the frame of a version that was finished, behind the journal of the versions that led to the zone that it was made of
abbrev pub FinishedGrowJournals : Type 0
FinishedGrowJournals = (v : VersionState) (signatures : List (List ℕ)) (u : UpdatedZone) (a : Sets) (bs : List Sets) (journal : List ℕ) → IsFinishedVersion true v signatures u
    → IsJournal v.origin a bs journal → last_of a bs ≡ v.before.inner.records → IsJournal v.origin a (bs ++ u.zone.inner.records ∷ []) (journal ++ u.frame.items)
