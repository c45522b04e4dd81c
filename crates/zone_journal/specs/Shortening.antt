-- What a journal has behind the version with an SOA
use Rattle.std.specs.Prelude.{◌≡◌, ℕ, Bool, false, if◌then◌else◌, List, [], ◌∷◌, ◌++◌, take, drop, Option, Some, None}
use Rattle.std.specs.List.{list_any, AllByRecursion}
use Rattle.zone_proto.specs.Names.{Name}
use Rattle.zone_proto.specs.Sets.{RRset, same_set}
use Rattle.zone_proto.specs.Types.{SOA}
use Rattle.zone_map.specs.Zones.{Sets, set_at, IsZone}
use Rattle.zone_difference.specs.Differences.{same_at}
use Rattle.zone_difference.specs.Laws.{last_of, SameZone}
use Rattle.journal_frames.specs.Journals.{frames_in, journal_of}
use Rattle.shown_zones.specs.Shown.{shown, shown_if}
use Rattle.shown_zones.specs.Steps.{Step}
use Rattle.zone_journal.specs.Entries.{entry_of}
use Rattle.zone_journal.specs.Journals.{IsJournal}
use Rattle.zone_journal.specs.JournalLaws.{LeadsTo}
use Rattle.zone_journal.specs.Replays.{replayed}

-- a step, if there is one, leads to the version with this SOA
abbrev pub is_to : RRset → Option Step → Bool
is_to soa None = false
is_to soa (Some s) = same_set s.new_soa soa

-- octets are the entry of a step to the version with this SOA
abbrev pub leads_to : RRset → List ℕ → Bool
leads_to soa text = is_to soa (entry_of text)

-- messages up to the last one that passes a test, and none where none does
unfoldable pub up_to_last : (List ℕ → Bool) → List (List ℕ) → List (List ℕ)
up_to_last test [] = []
up_to_last test (text ∷ texts) = if list_any test (text ∷ texts) then text ∷ up_to_last test texts else []

-- the entries of a journal up to the last one that leads to the version with this SOA
abbrev pub left_out : RRset → List ℕ → List (List ℕ)
left_out soa octets = up_to_last (leads_to soa) (frames_in octets)

-- ---- which version a journal is begun anew from

-- answers show this SOA of a version
abbrev pub shows_soa : Name → RRset → Sets → Bool
shows_soa origin soa z = same_at (shown_if (set_at z origin SOA)) (Some soa)

-- A zone has what answers show of the version of this place, and no later version has its SOA, as where each has a serial of its own.
pub record IsVersion (origin : Name) (a : Sets) (bs : List Sets) (place : ℕ) (m : Sets) (soa : RRset) : Type 0 where
  pub zone : IsZone m
  pub like : SameZone m (shown (last_of a (take place bs)))
  pub soa_is : set_at m origin SOA ≡ Some soa
  pub last : AllByRecursion (λ b. shows_soa origin soa b ≡ false) (drop place bs)

-- What a journal has behind a version is the journal of the zone from that version on, and leads from there to where the whole journal leads.
abbrev pub JournalsShorten : Type 0
JournalsShorten = (origin : Name) (a m : Sets) (bs : List Sets) (octets rest : List ℕ) (place : ℕ) (soa : RRset) → IsJournal origin a bs octets
    → IsVersion origin a bs place m soa → octets ≡ journal_of (left_out soa octets) ++ rest
    → IsJournal origin (last_of a (take place bs)) (drop place bs) rest × LeadsTo (replayed m rest) (last_of a bs)
