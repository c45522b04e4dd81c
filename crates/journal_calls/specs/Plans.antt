-- What the calls do that plan updates, and commit them
use Rattle.std.specs.Prelude.{◌≡◌, ◌⊎◌, ◌<◌, ℕ, true, false, List, [], length, Option, Some, None}
use Rattle.call_handles.specs.Rooms.{IsUntouched, StandsIn}
use Rattle.arrival_calls.specs.declared.client.ClientMessage.{ClientMessage}
use Rattle.zone_database.specs.declared.database.ZoneDatabase.{ZoneDatabase}
use Rattle.zone_database.specs.declared.outcome.Outcome.TheVariants.{Done, Closed, NoMemory, NoRoom}
use Rattle.zone_database.specs.declared.zone.Zone.{Zone}
use Rattle.zone_database.specs.Databases.{with_zone, zones_in}
use Rattle.held_updates.specs.declared.access.UpdateAccess.{UpdateAccess}
use Rattle.held_updates.specs.declared.planned.PlannedUpdate.{PlannedUpdate}
use Rattle.held_updates.specs.declared.planned.PlannedUpdate.TheVariants as planned
use Rattle.held_updates.specs.declared.planned.UpdatedZone.{UpdatedZone}
use Rattle.held_updates.specs.Committing.{is_current}
use Rattle.held_updates.specs.Journaling.{IsPlanJournaled}
use Rattle.held_updates.specs.Planning.{PlansUpdate}
use Rattle.journal_calls.specs.declared.outcome.JournalOutcome.{JournalOutcome}
use Rattle.journal_calls.specs.declared.outcome.JournalOutcome.TheVariants.{Usual, NoKeys, NoPlan, NoUpdate, ZoneChanged}

-- ---- an update is planned

-- what a room of the caller's has, before and after, and how many octets the call says were written there
pub record Room : Type 0 where
  pub written : ℕ
  pub before : List ℕ
  pub after : List ℕ

abbrev pub room : ℕ → List ℕ → List ℕ → Room
room written before after = record { written = written; before = before; after = after }

-- what a call tells: how it ended, the room for the response, and the room for what the journal gets
pub record PlanTold : Type 0 where
  pub outcome : JournalOutcome
  pub response : Room
  pub frame : Room

abbrev pub plan_told : JournalOutcome → ℕ → List ℕ → List ℕ → ℕ → List ℕ → List ℕ → PlanTold
plan_told outcome written before after frame_written frame_before frame_after = record {
  outcome = outcome;
  response = room written before after;
  frame = room frame_written frame_before frame_after;
}

-- nothing was written
abbrev pub AreUntouched : PlanTold → Type 0
AreUntouched t = IsUntouched t.response.written t.response.before t.response.after × IsUntouched t.frame.written t.frame.before t.frame.after

-- octets are in their room, and it is told how many they are
abbrev pub IsIn : List ℕ → Room → Type 0
IsIn octets r = (r.written ≡ length octets) × StandsIn octets r.before r.after

-- it is told how many they are, and the room stays as it was
abbrev pub IsOutside : List ℕ → Room → Type 0
IsOutside octets r = (r.written ≡ length octets) × (r.after ≡ r.before)

-- a response and what a journal gets are in their rooms
abbrev pub AreGiven : List ℕ → List ℕ → Room → Room → Type 0
AreGiven octets frame r f = IsIn octets r × IsIn frame f

-- one of them is longer than its room, and so neither is there
abbrev pub AreTooLong : List ℕ → List ℕ → Room → Room → Type 0
AreTooLong octets frame r f = ((length r.before < length octets) ⊎ (length f.before < length frame)) × IsOutside octets r × IsOutside frame f

-- They are in their rooms, and this is held; or there is no room for them, or no memory to hold it, and nothing is held.
abbrev pub GivesPlan : List ℕ → List ℕ → Option UpdatedZone → JournalOutcome → PlanTold → Option UpdatedZone → Type 0
GivesPlan octets frame kept (Usual Done) t held = AreGiven octets frame t.response t.frame × (held ≡ kept)
GivesPlan octets frame kept (Usual NoRoom) t held = AreTooLong octets frame t.response t.frame × (held ≡ None)
GivesPlan octets frame kept (Usual NoMemory) t held = AreUntouched t × (held ≡ None)
GivesPlan octets frame kept outcome t held = ⊥

-- the call ends so: nothing was written, and nothing is held
abbrev pub Ends : JournalOutcome → PlanTold → Option UpdatedZone → Type 0
Ends outcome t held = (t.outcome ≡ outcome) × AreUntouched t × (held ≡ None)

-- What is told of what is planned of a message: where a zone is to change, the one after the update is held, and what the journal gets is told.
abbrev pub TellsPlan : PlannedUpdate → List ℕ → PlanTold → Option UpdatedZone → Type 0
TellsPlan planned.Other octets t held = Ends NoUpdate t held
TellsPlan planned.Refused octets t held = GivesPlan octets [] None t.outcome t held
TellsPlan planned.Unchanged octets t held = GivesPlan octets [] None t.outcome t held
TellsPlan (planned.Updated u) octets t held = GivesPlan octets u.frame.items (Some u) t.outcome t held

-- a message is planned by these keys and rules in these zones, of which journals are kept
abbrev pub PlansZones : UpdateAccess → ClientMessage → List Zone → PlanTold → Option UpdatedZone → Type 0
PlansZones access m zs t held =
    Ends (Usual NoMemory) t held
    ⊎ ((p : PlannedUpdate) × (octets : List ℕ) × PlansUpdate access m.moment m.octets.now zs p octets × IsPlanJournaled true zs p × TellsPlan p octets t held)

-- the same of a handle, which may hold no keys
abbrev pub PlansByAccess : Option UpdateAccess → ClientMessage → List Zone → PlanTold → Option UpdatedZone → Type 0
PlansByAccess None m zs t held = Ends NoKeys t held
PlansByAccess (Some access) m zs t held = PlansZones access m zs t held

-- the same of one that may hold no zones
abbrev pub PlansHeld : Option UpdateAccess → ClientMessage → Option ZoneDatabase → PlanTold → Option UpdatedZone → Type 0
PlansHeld access m None t held = Ends (Usual Closed) t held
PlansHeld access m (Some c) t held = PlansByAccess access m (zones_in c) t held

-- ---- an update is committed

-- the zone after an update is in place of the one that was updated, whose serial is that of then; or nothing changes
abbrev pub CommitsZones : UpdatedZone → List Zone → JournalOutcome → List Zone → Type 0
CommitsZones u zs (Usual Done) new = (is_current u zs ≡ true) × (new ≡ with_zone u.zone zs)
CommitsZones u zs (Usual NoMemory) new = new ≡ zs
CommitsZones u zs ZoneChanged new = (is_current u zs ≡ false) × (new ≡ zs)
CommitsZones u zs outcome new = ⊥

-- the same of a handle, which may hold no plan, and of one that may hold no zones
abbrev pub CommitsHeld : Option UpdatedZone → Option ZoneDatabase → JournalOutcome → Option ZoneDatabase → Type 0
CommitsHeld None zones outcome new = (outcome ≡ NoPlan) × (new ≡ zones)
CommitsHeld (Some u) None outcome new = (outcome ≡ Usual Closed) × (new ≡ None)
CommitsHeld (Some u) (Some c) outcome new = (after : ZoneDatabase) × CommitsZones u (zones_in c) outcome (zones_in after) × (new ≡ Some after)
