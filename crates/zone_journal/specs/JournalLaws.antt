-- What journals lead to
use Rattle.std.specs.Prelude.{◌≡◌, ◌≢◌, ℕ, ◌^◌, ◌<◌, ◌≤◌, List, [], ◌∷◌, ◌++◌, length, take, Result, Ok}
use Rattle.zone_proto.specs.Names.{Name}
use Rattle.zone_map.specs.Zones.{Sets, IsZone}
use Rattle.zone_difference.specs.Laws.{last_of, SameZone}
use Rattle.journal_frames.specs.Frames.{checksum, number_octets}
use Rattle.shown_zones.specs.Shown.{shown}
use Rattle.shown_zones.specs.Steps.{Step, IsStep}
use Rattle.zone_journal.specs.Journals.{IsJournal, IsPut}
use Rattle.zone_journal.specs.Replays.{replayed}
use Rattle.zone_journal.specs.declared.replaying.ReplayFault.{ReplayFault}

-- a zone is made that answers show as another
abbrev pub LeadsTo : Result Sets ReplayFault → Sets → Type 0
LeadsTo made z = (n : Sets) × (made ≡ Ok n) × IsZone n × SameZone n (shown z)

-- No octets are the journal of a zone that had one version.
abbrev pub JournalsBegin : Type 0
JournalsBegin = (origin : Name) (a : Sets) → IsZone a → IsJournal origin a [] []

-- With the entry of the step to the next version a journal is that of a zone that had one more.
abbrev pub JournalsGrow : Type 0
JournalsGrow = (origin : Name) (a b : Sets) (bs : List Sets) (old new : List ℕ) (s : Step) → IsJournal origin a bs old → IsZone b
    → IsStep origin (last_of a bs) b s → IsPut old new s → IsJournal origin a (bs ++ b ∷ []) new

-- From what answers show of the first version a journal leads to what they show of the last.
abbrev pub JournalsLead : Type 0
JournalsLead = (origin : Name) (a m : Sets) (bs : List Sets) (octets : List ℕ) → IsJournal origin a bs octets → IsZone m → SameZone m (shown a)
    → LeadsTo (replayed m octets) (last_of a bs)

-- Cut off behind any octet, it leads to what they show of one of the versions.
abbrev pub CutJournalsLead : Type 0
CutJournalsLead = (origin : Name) (a m : Sets) (bs : List Sets) (octets : List ℕ) → IsJournal origin a bs octets → IsZone m → SameZone m (shown a)
    → (k : ℕ) → (j : ℕ) × (j ≤ length bs) × LeadsTo (replayed m (take k octets)) (last_of a (take j bs))

-- A frame behind it whose message was written in part or wrongly, so that its checksum is another, counts for nothing.
abbrev pub TornJournalsLead : Type 0
TornJournalsLead = (origin : Name) (a m : Sets) (bs : List Sets) (octets text torn : List ℕ) → IsJournal origin a bs octets → IsZone m → SameZone m (shown a)
    → length text < 2 ^ 32 → checksum (take (length text) torn) ≢ checksum text
    → LeadsTo (replayed m (octets ++ (number_octets (length text) ++ (checksum text ++ torn)))) (last_of a bs)
