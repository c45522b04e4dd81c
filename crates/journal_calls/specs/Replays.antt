-- What the call does that replays the journal of a zone
use Rattle.std.specs.Prelude.{◌≡◌, ◌⊎◌, ℕ, List, Option, Some, None, Ok, Err, IsErr}
use Rattle.std.specs.List.{find}
use Rattle.zone_proto.specs.Names.{Name, lower}
use Rattle.zone_database.specs.declared.database.ZoneDatabase.{ZoneDatabase}
use Rattle.zone_database.specs.declared.outcome.Outcome.TheVariants.{Done, BadName, Closed, NoMemory, NoZone}
use Rattle.zone_database.specs.declared.zone.Zone.{Zone}
use Rattle.zone_database.specs.Calls.{origin_of}
use Rattle.zone_database.specs.Databases.{begins_at, with_zone, zones_in}
use Rattle.zone_journal.specs.declared.replaying.ReplayFault.{ReplayFault}
use Rattle.zone_journal.specs.declared.replaying.ReplayFault.TheVariants as fault
use Rattle.held_updates.specs.Replaying.{Replays}
use Rattle.journal_calls.specs.declared.outcome.JournalOutcome.{JournalOutcome}
use Rattle.journal_calls.specs.declared.outcome.JournalOutcome.TheVariants.{Usual, Misfit, NoEntry}

-- how a fault of a journal is told
abbrev pub fault_told : ReplayFault → JournalOutcome
fault_told fault.NoEntry = NoEntry
fault_told fault.Misfit = Misfit
fault_told fault.Memory = Usual NoMemory

-- the zone that its journal leads to is in place of the one that was found; or it leads to none, or no memory was found, and nothing changes
abbrev pub ReplaysZone : List ℕ → Zone → List Zone → JournalOutcome → List Zone → Type 0
ReplaysZone journal z zs (Usual Done) new = (after : Zone) × Replays z journal (Ok after) × (new ≡ with_zone after zs)
ReplaysZone journal z zs (Usual NoMemory) new = new ≡ zs
ReplaysZone journal z zs NoEntry new = Replays z journal (Err fault.NoEntry) × (new ≡ zs)
ReplaysZone journal z zs Misfit new = Replays z journal (Err fault.Misfit) × (new ≡ zs)
ReplaysZone journal z zs outcome new = ⊥

-- the same where there may be no zone
abbrev pub ReplaysAt : List ℕ → Option Zone → List Zone → JournalOutcome → List Zone → Type 0
ReplaysAt journal None zs outcome new = (outcome ≡ Usual NoZone) × (new ≡ zs)
ReplaysAt journal (Some z) zs outcome new = ReplaysZone journal z zs outcome new

-- octets are no name (RFC 1035 section 5.1), or no memory was found
abbrev pub IsUnread : List ℕ → JournalOutcome → Type 0
IsUnread text outcome = (outcome ≡ Usual NoMemory) ⊎ ((outcome ≡ Usual BadName) × IsErr (origin_of text))

-- the same of the zone of an origin that is given as text
abbrev pub ReplaysNamed : List ℕ → List ℕ → List Zone → JournalOutcome → List Zone → Type 0
ReplaysNamed text journal zs outcome new =
    (IsUnread text outcome × (new ≡ zs)) ⊎ ((name : Name) × (origin_of text ≡ Ok name) × ReplaysAt journal (find (begins_at (lower name)) zs) zs outcome new)

-- the same of a handle, which may hold no zones
abbrev pub ReplaysHeld : List ℕ → List ℕ → Option ZoneDatabase → JournalOutcome → Option ZoneDatabase → Type 0
ReplaysHeld text journal None outcome new = (outcome ≡ Usual Closed) × (new ≡ None)
ReplaysHeld text journal (Some c) outcome new = (after : ZoneDatabase) × ReplaysNamed text journal (zones_in c) outcome (zones_in after) × (new ≡ Some after)
