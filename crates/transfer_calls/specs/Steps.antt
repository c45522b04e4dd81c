-- What the calls do that keep steps, and send them in place of a zone
use Rattle.std.specs.Prelude.{◌≡◌, ◌⊎◌, ℕ, true, false, List, Option, Some, None, Ok}
use Rattle.std.specs.List.{find}
use Rattle.zone_proto.specs.Names.{Name}
use Rattle.zone_database.specs.declared.database.ZoneDatabase.{ZoneDatabase}
use Rattle.zone_database.specs.declared.outcome.Outcome.{Outcome}
use Rattle.zone_database.specs.declared.outcome.Outcome.TheVariants.{Done, Closed, NoZone, NoMemory}
use Rattle.zone_database.specs.declared.zone.Zone.{Zone}
use Rattle.zone_database.specs.Databases.{begins_at, zones_in}
use Rattle.held_steps.specs.declared.held_answer.HeldAnswer.{HeldAnswer}
use Rattle.held_steps.specs.declared.histories.HeldSteps.{HeldSteps}
use Rattle.held_steps.specs.Histories.{history_of, most_in, HasNone, IsNotedIn, IsPut, IsSame}
use Rattle.held_steps.specs.Recalling.{IsRecalledIn}
use Rattle.held_steps.specs.Shortening.{IsShortened}
use Rattle.transfer_calls.specs.declared.outcome.TransferOutcome.{TransferOutcome}
use Rattle.transfer_calls.specs.declared.outcome.TransferOutcome.TheVariants.{Usual, NoTransfer, NoSteps}
use Rattle.transfer_calls.specs.Accesses.{IsName, IsUnread}

-- ---- steps are kept

-- the steps of no zone are held, and those of each may have so many records; or no memory was found, and what was held stays
abbrev pub BeginsSteps : ℕ → Option HeldSteps → Outcome → Option HeldSteps → Type 0
BeginsSteps most old Done new = (s : HeldSteps) × HasNone s × (most_in s ≡ most) × (new ≡ Some s)
BeginsSteps most old NoMemory new = new ≡ old
BeginsSteps most old outcome new = ⊥

-- what was kept of the zone of an origin is forgotten
pub record IsForgotten (origin : Name) (old new : HeldSteps) : Type 0 where
  pub forgotten : IsPut origin None (history_of old) (history_of new)
  pub most : most_in new ≡ most_in old

-- a version of a zone was taken in: with the steps of the zone's journal, or behind those that are kept
abbrev pub IsTaken : Option (List ℕ) → Zone → HeldSteps → HeldSteps → Type 0
IsTaken (Some journal) z old new = IsRecalledIn z journal old new
IsTaken None z old new = IsNotedIn z old new

-- a version of a zone is taken in; where there is no zone of the origin, what was kept of it is forgotten; or no memory was found, and nothing
-- changed
abbrev pub NotesZone : Option (List ℕ) → Name → Option Zone → HeldSteps → TransferOutcome → HeldSteps → Type 0
NotesZone journal origin (Some z) old (Usual Done) new = IsTaken journal z old new
NotesZone journal origin None old (Usual NoZone) new = IsForgotten origin old new
NotesZone journal origin found old (Usual NoMemory) new = IsSame old new
NotesZone journal origin found old outcome new = ⊥

-- the zone of the origin that octets name, among these
pub record NotesNamed (journal : Option (List ℕ)) (octets : List ℕ) (zs : List Zone) (old : HeldSteps) (outcome : TransferOutcome) (new : HeldSteps) : Type 0 where
  pub origin : Name
  pub named : IsName octets origin
  pub notes : NotesZone journal origin (find (begins_at origin) zs) old outcome new

-- or they are no name, or no memory was found, and nothing changed
abbrev pub Notes : Option (List ℕ) → List ℕ → List Zone → HeldSteps → TransferOutcome → HeldSteps → Type 0
Notes journal octets zs old outcome new = NotesNamed journal octets zs old outcome new ⊎ (IsUnread octets outcome × IsSame old new)

-- the same of a handle, which may hold no zones
abbrev pub NotesFrom : Option (List ℕ) → List ℕ → Option ZoneDatabase → HeldSteps → TransferOutcome → HeldSteps → Type 0
NotesFrom journal octets None old outcome new = (outcome ≡ Usual Closed) × (new ≡ old)
NotesFrom journal octets (Some c) old outcome new = Notes journal octets (zones_in c) old outcome new

-- the same of one that may hold no steps
abbrev pub NotesHeld : Option (List ℕ) → List ℕ → Option ZoneDatabase → Option HeldSteps → TransferOutcome → Option HeldSteps → Type 0
NotesHeld journal octets zones None outcome new = (outcome ≡ NoSteps) × (new ≡ None)
NotesHeld journal octets zones (Some old) outcome new = (s : HeldSteps) × NotesFrom journal octets zones old outcome s × (new ≡ Some s)

-- ---- steps go out in place of a zone

-- they do; or not, and the zone goes out whole; or no memory was found, and nothing changed
abbrev pub ShortensAnswer : HeldSteps → List ℕ → HeldAnswer → TransferOutcome → HeldAnswer → Type 0
ShortensAnswer s message old (Usual Done) new = IsShortened s message old new (Ok true)
ShortensAnswer s message old NoSteps new = IsShortened s message old new (Ok false)
ShortensAnswer s message old (Usual NoMemory) new = new ≡ old
ShortensAnswer s message old outcome new = ⊥

-- the same of a handle, which may hold no transfer
abbrev pub ShortensBy : HeldSteps → List ℕ → Option HeldAnswer → TransferOutcome → Option HeldAnswer → Type 0
ShortensBy s message None outcome new = (outcome ≡ NoTransfer) × (new ≡ None)
ShortensBy s message (Some old) outcome new = (a : HeldAnswer) × ShortensAnswer s message old outcome a × (new ≡ Some a)

-- the same of one that may hold no steps
abbrev pub ShortensHeld : Option HeldSteps → List ℕ → Option HeldAnswer → TransferOutcome → Option HeldAnswer → Type 0
ShortensHeld None message old outcome new = (outcome ≡ NoSteps) × (new ≡ old)
ShortensHeld (Some s) message old outcome new = ShortensBy s message old outcome new
