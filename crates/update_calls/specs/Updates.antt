-- What the call does that carries out updates
use Rattle.std.specs.Prelude.{◌≡◌, ◌⊎◌, ℕ, List, length, Option, Some, None}
use Rattle.call_handles.specs.Rooms.{IsUntouched}
use Rattle.arrival_calls.specs.declared.client.ClientMessage.{ClientMessage}
use Rattle.zone_database.specs.declared.database.ZoneDatabase.{ZoneDatabase}
use Rattle.zone_database.specs.declared.outcome.Outcome.TheVariants.{Closed, NoMemory}
use Rattle.zone_database.specs.declared.zone.Zone.{Zone}
use Rattle.zone_database.specs.Calls.{IsGiven}
use Rattle.zone_database.specs.Databases.{zones_in}
use Rattle.held_updates.specs.declared.access.UpdateAccess.{UpdateAccess}
use Rattle.held_updates.specs.declared.answering.UpdateAnswer.{UpdateAnswer}
use Rattle.held_updates.specs.declared.answering.UpdateAnswer.TheVariants as answer
use Rattle.held_updates.specs.Answering.{AnswersUpdate}
use Rattle.update_calls.specs.declared.outcome.UpdateOutcome.{UpdateOutcome}
use Rattle.update_calls.specs.declared.outcome.UpdateOutcome.TheVariants.{Usual, NoKeys, NoUpdate}

-- what a call tells: how it ended, how many octets it says were written, the room before and after, and whether a zone changed
pub record Told : Type 0 where
  pub outcome : UpdateOutcome
  pub written : ℕ
  pub before : List ℕ
  pub after : List ℕ
  pub changed : ℕ

abbrev pub told : UpdateOutcome → ℕ → List ℕ → List ℕ → ℕ → Told
told outcome written before after changed = record { outcome = outcome; written = written; before = before; after = after; changed = changed }

-- the call ends so, without a response
abbrev pub EndsWith : UpdateOutcome → Told → Type 0
EndsWith outcome t = (t.outcome ≡ outcome) × IsUntouched t.written t.before t.after × (t.changed ≡ 0)

-- a response is in the room; or it is longer than that, and the room stays as it was
abbrev pub IsGivenBy : List ℕ → UpdateOutcome → ℕ → List ℕ → List ℕ → Type 0
IsGivenBy octets (Usual o) written before after = IsGiven octets o written before after
IsGivenBy octets outcome written before after = ⊥

-- 1 where a zone was replaced, and else 0
abbrev pub changed_by : UpdateAnswer → ℕ
changed_by (answer.Updated origin) = 1
changed_by a = 0

-- what is told of what came of a message
abbrev pub TellsAnswer : UpdateAnswer → List ℕ → Told → Type 0
TellsAnswer answer.Other octets t = EndsWith NoUpdate t
TellsAnswer a octets t = IsGivenBy octets t.outcome t.written t.before t.after × (t.changed ≡ changed_by a)

-- a message is answered by these keys and rules, and these zones become the new ones
abbrev pub UpdatesZones : UpdateAccess → ClientMessage → List Zone → Told → List Zone → Type 0
UpdatesZones access m zs t new =
    (EndsWith (Usual NoMemory) t × (new ≡ zs))
    ⊎ ((a : UpdateAnswer) × (octets : List ℕ) × AnswersUpdate access m.moment (length t.before) m.octets.now zs a octets new × TellsAnswer a octets t)

-- the same of a handle, which may hold no keys
abbrev pub UpdatesByAccess : Option UpdateAccess → ClientMessage → List Zone → Told → List Zone → Type 0
UpdatesByAccess None m zs t new = EndsWith NoKeys t × (new ≡ zs)
UpdatesByAccess (Some access) m zs t new = UpdatesZones access m zs t new

-- the same of one that may hold no zones
abbrev pub UpdatesHeld : Option UpdateAccess → ClientMessage → Option ZoneDatabase → Told → Option ZoneDatabase → Type 0
UpdatesHeld access m None t new = EndsWith (Usual Closed) t × (new ≡ None)
UpdatesHeld access m (Some c) t new = (after : ZoneDatabase) × UpdatesByAccess access m (zones_in c) t (zones_in after) × (new ≡ Some after)
