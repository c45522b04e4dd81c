-- What the call does by which an update of a signed zone is prepared
use Rattle.std.specs.Prelude.{◌≡◌, ◌⊎◌, List, ℕ, true, [], Option, Some, None}
use Rattle.arrival_calls.specs.declared.client.ClientMessage.{ClientMessage}
use Rattle.call_handles.specs.Rooms.{IsUntouched}
use Rattle.zone_proto.specs.Names.{Name}
use Rattle.zone_planning.specs.declared.fault.PlanFault.TheVariants.{Unwritable}
use Rattle.zone_database.specs.declared.database.ZoneDatabase.{ZoneDatabase}
use Rattle.zone_database.specs.declared.outcome.Outcome.TheVariants.{Done, Closed, NoMemory, NoRoom}
use Rattle.zone_database.specs.declared.zone.Zone.{Zone}
use Rattle.zone_database.specs.Databases.{zones_in}
use Rattle.held_plans.specs.Asking.{AreSignable}
use Rattle.held_plans.specs.Holding.{made_plan}
use Rattle.held_updates.specs.declared.access.UpdateAccess.{UpdateAccess}
use Rattle.held_updates.specs.declared.planned.UpdatedZone.{UpdatedZone}
use Rattle.held_updates.specs.Journaling.{IsPlanJournaled}
use Rattle.journal_calls.specs.declared.outcome.JournalOutcome.{JournalOutcome}
use Rattle.journal_calls.specs.declared.outcome.JournalOutcome.TheVariants.{Usual, NoKeys}
use Rattle.journal_calls.specs.Plans.{AreGiven, AreTooLong, GivesPlan, PlanTold, Room, room, TellsPlan}
use Rattle.plan_calls.specs.declared.outcome.PlanOutcome.{PlanOutcome}
use Rattle.plan_calls.specs.declared.outcome.PlanOutcome.TheVariants.{Unplanned}
use Rattle.plan_calls.specs.declared.signing.Signing.{Signing as How}
use Rattle.plan_calls.specs.declared.signing_plan.SigningPlan.{SigningPlan}
use Rattle.plan_calls.specs.SigningPlans.{whole}
use Rattle.update_denials.specs.declared.preparing.Signing.{Signing}
use Rattle.update_signing.specs.declared.answering.SignedReply.{SignedReply}
use Rattle.update_signing.specs.declared.answering.SignedReply.TheVariants as reply
use Rattle.signed_updates.specs.declared.beginning.SignedPlan.{SignedPlan}
use Rattle.signed_updates.specs.declared.beginning.SignedPlan.TheVariants as begun
use Rattle.signed_updates.specs.Beginning.{Begins, IfPlanned}
use Rattle.signed_versions.specs.Asking.{IsAskedFor}
use Rattle.signed_versions.specs.Versions.{VersionState}
use Rattle.signed_calls.specs.declared.outcome.PrepareOutcome.{PrepareOutcome}
use Rattle.signed_calls.specs.declared.outcome.PrepareOutcome.TheVariants.{Update, Plan}
use Rattle.signed_calls.specs.declared.signed_zone.SignedZone.{SignedZone}
use Rattle.signed_calls.specs.Given.{IsGiven, IsNotGiven}
use Rattle.signed_calls.specs.Versions.{version_plan}

-- what a call tells beside how it ends: the room for the response, and the room for what the journal gets
pub record Told : Type 0 where
  pub response : Room
  pub frame : Room

abbrev pub rooms : ℕ → List ℕ → List ℕ → ℕ → List ℕ → List ℕ → Told
rooms written before after frame_written frame_before frame_after = record { response = room written before after; frame = room frame_written frame_before frame_after }

-- the same of a call about any update, with how that ends
abbrev pub ends_by : JournalOutcome → Told → PlanTold
ends_by outcome told = record { outcome = outcome; response = told.response; frame = told.frame }

-- nothing was written
abbrev pub IsSilent : Told → Type 0
IsSilent told = IsUntouched told.response.written told.response.before told.response.after × IsUntouched told.frame.written told.frame.before told.frame.after

-- the call ends so: nothing was written, and nothing is held
abbrev pub Ends : PrepareOutcome → PrepareOutcome → Told → Option UpdatedZone → Option SigningPlan → Type 0
Ends end outcome told update plan = (outcome ≡ end) × IsSilent told × (update ≡ None) × (plan ≡ None)

-- it ends as one about any update does, of which this holds, and there is nothing to be signed
abbrev pub EndsAs : (JournalOutcome → Type 0) → PrepareOutcome → Option SigningPlan → Type 0
EndsAs holds (Update o) plan = holds o × (plan ≡ None)
EndsAs holds (Plan e) plan = ⊥

-- The response is in its room, and the plan of what is to be signed is held. Or nothing is held: there is no room for the response, no memory, or a
-- record has data that no octets are.
abbrev pub GivesSigning : List ℕ → SigningPlan → PrepareOutcome → Told → Option UpdatedZone → Option SigningPlan → Type 0
GivesSigning octets s (Update (Usual Done)) told update plan = AreGiven octets [] told.response told.frame × (update ≡ None) × (plan ≡ Some s)
GivesSigning octets s (Update (Usual NoRoom)) told update plan = AreTooLong octets [] told.response told.frame × (update ≡ None) × (plan ≡ None)
GivesSigning octets s (Update (Usual NoMemory)) told update plan = IsSilent told × (update ≡ None) × (plan ≡ None)
GivesSigning octets s (Plan (Unplanned f)) told update plan = (f ≡ Unwritable) × (AreSignable s.plan.records → ⊥) × IsSilent told × (update ≡ None) × (plan ≡ None)
GivesSigning octets s outcome told update plan = ⊥

-- What is told of an update of the signed zone, whose response has these octets: the zone after it is to be signed, or the response is all.
abbrev pub TellsReply : Name → SignedReply → List ℕ → PrepareOutcome → Told → Option UpdatedZone → Option SigningPlan → Type 0
TellsReply origin (reply.Prepared p) octets outcome told update plan =
    GivesSigning octets (whole (made_plan origin p.serial p.plan.records p.plan.keys.items)) outcome told update plan
TellsReply origin r octets outcome told update plan = EndsAs (λ o. GivesPlan octets [] None o (ends_by o told) update) outcome plan

-- the same of any message: another is told as elsewhere
abbrev pub TellsSigned : Name → SignedPlan → List ℕ → PrepareOutcome → Told → Option UpdatedZone → Option SigningPlan → Type 0
TellsSigned origin (begun.Planned p) octets outcome told update plan = EndsAs (λ o. TellsPlan p octets (ends_by o told) update) outcome plan
TellsSigned origin (begun.Signed r) octets outcome told update plan = TellsReply origin r octets outcome told update plan

-- an update of the zone of this origin is made in the version that is to take its place, and the sets of it that get other signatures are to be signed
abbrev pub PreparesVersion : UpdateAccess → Name → Signing → ClientMessage → List Zone → PrepareOutcome → Told → Option UpdatedZone → Option SigningPlan → Type 0
PreparesVersion access origin signing m zs outcome told update plan =
    (v : VersionState) × (octets : List ℕ) × IsAskedFor access origin signing.keys.items signing.request m.moment m.octets.now zs v octets
    × GivesSigning octets (version_plan v) outcome told update plan

-- a message is planned by these keys and rules in these zones, of which journals are kept, and the whole zone of this origin is signed so
abbrev pub PreparesWhole : UpdateAccess → Name → Signing → ClientMessage → List Zone → PrepareOutcome → Told → Option UpdatedZone → Option SigningPlan → Type 0
PreparesWhole access origin signing m zs outcome told update plan =
    Ends (Update (Usual NoMemory)) outcome told update plan
    ⊎ ((x : SignedPlan) × (octets : List ℕ) × Begins access origin signing m.moment m.octets.now zs x octets × IfPlanned (IsPlanJournaled true zs) x
    × TellsSigned origin x octets outcome told update plan)

-- it is planned so, or made in the version that is to take the place of that zone
abbrev pub PreparesZones : UpdateAccess → Name → Signing → ClientMessage → List Zone → PrepareOutcome → Told → Option UpdatedZone → Option SigningPlan → Type 0
PreparesZones access origin signing m zs outcome told update plan =
    PreparesVersion access origin signing m zs outcome told update plan ⊎ PreparesWhole access origin signing m zs outcome told update plan

-- the same where a caller says which zone is signed, and how, unless that isn't so
abbrev pub PreparesGiven : UpdateAccess → ClientMessage → SignedZone → How → List Zone → PrepareOutcome → Told → Option UpdatedZone → Option SigningPlan → Type 0
PreparesGiven access m z how zs outcome told update plan =
    ((e : PlanOutcome) × IsNotGiven z how e × Ends (Plan e) outcome told update plan)
    ⊎ ((origin : Name) × (signing : Signing) × IsGiven z how origin signing × PreparesZones access origin signing m zs outcome told update plan)

-- the same of a handle, which may hold no keys
abbrev pub PreparesByAccess : Option UpdateAccess → ClientMessage → SignedZone → How → List Zone → PrepareOutcome → Told → Option UpdatedZone → Option SigningPlan → Type 0
PreparesByAccess None m z how zs outcome told update plan = Ends (Update NoKeys) outcome told update plan
PreparesByAccess (Some access) m z how zs outcome told update plan = PreparesGiven access m z how zs outcome told update plan

-- the same of one that may hold no zones
abbrev pub PreparesHeld : Option UpdateAccess → ClientMessage → SignedZone → How → Option ZoneDatabase → PrepareOutcome → Told → Option UpdatedZone → Option SigningPlan → Type 0
PreparesHeld access m z how None outcome told update plan = Ends (Update (Usual Closed)) outcome told update plan
PreparesHeld access m z how (Some c) outcome told update plan = PreparesByAccess access m z how (zones_in c) outcome told update plan
