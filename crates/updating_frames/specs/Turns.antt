-- What comes of a message that may change a zone
use Rattle.std.specs.Prelude.{◌≡◌, ◌⊎◌, ℕ, true, List, [], ◌∷◌, Option}
use Rattle.zone_database.specs.declared.zone.Zone.{Zone}
use Rattle.zone_database.specs.Databases.{with_zone}
use Rattle.zone_server.specs.Frames.{Framed, framed}
use Rattle.held_transfers.specs.declared.access.TransferAccess.{TransferAccess}
use Rattle.keyed_frames.specs.Serving.{AnswersByKeys}
use Rattle.keyed_frames.specs.Stopping.{BeginsByKeys}
use Rattle.held_updates.specs.Journaling.{IsPlanJournaled}
use Rattle.held_updates.specs.Planning.{PlansUpdate}
use Rattle.held_updates.specs.declared.access.UpdateAccess.{UpdateAccess}
use Rattle.held_updates.specs.declared.planned.PlannedUpdate.{PlannedUpdate}
use Rattle.held_updates.specs.declared.planned.PlannedUpdate.TheVariants as planned
use Rattle.held_updates.specs.declared.planned.UpdatedZone.{UpdatedZone}
use Rattle.updating_frames.specs.Journals.{Entry, Grows}

-- who may have and change what, the zones, and what is known of their journals
pub record State : Type 0 where
  pub access : TransferAccess
  pub updates : UpdateAccess
  pub zones : List Zone
  pub entries : Option (List Entry)

-- nothing changed
pub record Stays (old new : State) : Type 0 where
  pub access : new.access ≡ old.access
  pub updates : new.updates ≡ old.updates
  pub zones : new.zones ≡ old.zones
  pub entries : Grows old.entries new.entries []

-- what the journal of a zone takes of an update
abbrev pub entry_of : UpdatedZone → Entry
entry_of u = record { origin = u.zone.origin; frame = u.frame.items }

-- the journal of the zone took the update, and these are the zones then
pub record IsTaken (u : UpdatedZone) (zones : List Zone) (old new : State) : Type 0 where
  pub access : new.access ≡ old.access
  pub updates : new.updates ≡ old.updates
  pub zones_are : new.zones ≡ zones
  pub entries : Grows old.entries new.entries (entry_of u ∷ [])

-- and the zone after it came in place of the one before
abbrev pub IsServed : UpdatedZone → State → State → Type 0
IsServed u old new = IsTaken u (with_zone u.zone old.zones) old new

-- and its response is written
abbrev pub ServesUpdated : UpdatedZone → List ℕ → State → State → List ℕ → Type 0
ServesUpdated u octets old new text = (text ≡ framed octets) × IsServed u old new

-- By what is planned of a message: where it is no update, it is answered by keys, and nothing changes; the response to one that is refused, or
-- changes nothing, is written; and that to another once the journal of its zone has it, and the zone after it is served.
abbrev pub Comes : Framed → PlannedUpdate → List ℕ → State → State → List ℕ → Type 0
Comes f planned.Other octets old new text = AnswersByKeys old.access old.zones f text × Stays old new
Comes f planned.Refused octets old new text = (text ≡ framed octets) × Stays old new
Comes f planned.Unchanged octets old new text = (text ≡ framed octets) × Stays old new
Comes f (planned.Updated u) octets old new text = ServesUpdated u octets old new text

-- what is written to a message, at some moment, and what the zones and their journals are then
pub record Answers (f : Framed) (old new : State) (text : List ℕ) : Type 0 where
  pub moment : ℕ
  pub plan : PlannedUpdate
  pub octets : List ℕ
  pub plans : PlansUpdate old.updates moment f.message old.zones plan octets
  pub journaled : IsPlanJournaled true old.zones plan
  pub comes : Comes f plan octets old new text

-- ---- where it stops

-- Nothing changed; or the journal of the zone has the update, which may not be served yet, and of its response nothing is written then.
abbrev pub StopsUpdated : UpdatedZone → List ℕ → State → State → List ℕ → Type 0
StopsUpdated u octets old new text =
    ((text ≡ []) × Stays old new)
    ⊎ (((text ≡ []) × IsTaken u old.zones old new)
    ⊎ ServesUpdated u octets old new text)

-- by what is planned of a message
abbrev pub IsBegun : Framed → PlannedUpdate → List ℕ → State → State → List ℕ → Type 0
IsBegun f planned.Other octets old new text = ((text ≡ []) ⊎ BeginsByKeys old.access old.zones f text) × Stays old new
IsBegun f planned.Refused octets old new text = (text ≡ framed octets) × Stays old new
IsBegun f planned.Unchanged octets old new text = (text ≡ framed octets) × Stays old new
IsBegun f (planned.Updated u) octets old new text = StopsUpdated u octets old new text

-- the answer to a message, at some moment, began with a front of this text
pub record BeginsPlanned (f : Framed) (old new : State) (text : List ℕ) : Type 0 where
  pub moment : ℕ
  pub plan : PlannedUpdate
  pub octets : List ℕ
  pub plans : PlansUpdate old.updates moment f.message old.zones plan octets
  pub journaled : IsPlanJournaled true old.zones plan
  pub begun : IsBegun f plan octets old new text

-- or nothing was done yet
abbrev pub Begins : Framed → State → State → List ℕ → Type 0
Begins f old new text = ((text ≡ []) × Stays old new) ⊎ BeginsPlanned f old new text
