-- The zone that a journal leads to
use Rattle.std.specs.Prelude.{◌≡◌, ◌⊎◌, ℕ, List, ◌++◌, Option, Some, None, Result, Ok, Err}
use Rattle.zone_proto.specs.Names.{Name}
use Rattle.zone_proto.specs.Sets.{RRset}
use Rattle.zone_proto.specs.Types.{SOA}
use Rattle.zone_map.specs.Zones.{Sets, set_at}
use Rattle.zone_difference.specs.Laws.{last_of, SameZone}
use Rattle.shown_zones.specs.Shown.{shown}
use Rattle.journal_frames.specs.Journals.{journal_of}
use Rattle.zone_journal.specs.declared.replaying.ReplayFault.{ReplayFault}
use Rattle.zone_journal.specs.declared.replaying.ReplayFault.TheVariants.{Memory}
use Rattle.zone_journal.specs.Journals.{IsJournal}
use Rattle.zone_journal.specs.Replays.{replayed}
use Rattle.zone_journal.specs.Shortening.{left_out, IsVersion}
use Rattle.zone_database.specs.declared.zone.Zone.{Zone}
use Rattle.zone_database.specs.Zones.{zone_of_records}

-- a journal has this behind the last entry that leads to the version with an SOA; all of it where the version has none
abbrev pub IsBehind : Option RRset → List ℕ → List ℕ → Type 0
IsBehind None journal rest = rest ≡ journal
IsBehind (Some soa) journal rest = journal ≡ journal_of (left_out soa journal) ++ rest

-- this holds of what the journal of a zone has behind the version with its SOA, replayed over what answers show of the zone
abbrev pub OfReplay : Zone → List ℕ → (Result Sets ReplayFault → Type 0) → Type 0
OfReplay z journal P = (rest : List ℕ) × IsBehind (set_at (shown z.inner.records) z.origin SOA) journal rest × P (replayed (shown z.inner.records) rest)

-- a zone of this origin has the sets that are made
abbrev pub IsOfSets : Name → Zone → Result Sets ReplayFault → Type 0
IsOfSets origin z made = (m : Sets) × (made ≡ Ok m) × (z ≡ zone_of_records origin m)

-- a zone is made of another by its journal, or refused for a fault; memory may run out in place of either
abbrev pub Replays : Zone → List ℕ → Result Zone ReplayFault → Type 0
Replays z journal (Ok after) = OfReplay z journal (IsOfSets z.origin after)
Replays z journal (Err Memory) = Unit {0}
Replays z journal (Err e) = OfReplay z journal (λ made. made ≡ Err e)

-- The journal of a zone that had a first version and then others, replayed over one of these versions, which has an SOA that no later one has, leads to
-- what answers show of the last, unless memory runs out.
abbrev pub JournalsAreReplayed : Type 0
JournalsAreReplayed = (z : Zone) (a : Sets) (bs : List Sets) (journal : List ℕ) (place : ℕ) (soa : RRset) (made : Result Zone ReplayFault) → IsJournal z.origin a bs journal
    → IsVersion z.origin a bs place (shown z.inner.records) soa → Replays z journal made
    → (made ≡ Err Memory) ⊎ ((after : Zone) × (made ≡ Ok after) × SameZone after.inner.records (shown (last_of a bs)))
