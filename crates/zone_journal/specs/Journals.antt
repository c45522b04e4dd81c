-- The journal of a zone: the entries of its steps from version to version, each in a frame
use Rattle.std.specs.Prelude.{◌≡◌, ℕ, ◌^◌, ◌<◌, List, ◌++◌, length, Some}
use Rattle.std.specs.List.{AllByRecursion, AllZip}
use Rattle.zone_proto.specs.Names.{Name}
use Rattle.zone_map.specs.Zones.{Sets, IsZone}
use Rattle.journal_frames.specs.Frames.{framed}
use Rattle.journal_frames.specs.Journals.{journal_of, AreMessages}
use Rattle.shown_zones.specs.Steps.{Step, shown_step}
use Rattle.shown_zones.specs.StepLaws.{AreSteps}
use Rattle.zone_journal.specs.Entries.{entry_of}

-- octets are the entries of steps
abbrev pub AreEntries : List (List ℕ) → List Step → Type 0
AreEntries = AllZip (λ text s. entry_of text ≡ Some (shown_step s))

-- the journal of a zone that had a first version and then others, one after the other
pub record IsJournal (origin : Name) (a : Sets) (bs : List Sets) (octets : List ℕ) : Type 0 where
  pub texts : List (List ℕ)
  pub put : octets ≡ journal_of texts
  pub frames : AreMessages texts
  pub steps : List Step
  pub entries : AreEntries texts steps
  pub lead : AreSteps origin steps a bs
  pub first : IsZone a
  pub others : AllByRecursion IsZone bs

-- the entry of a step is put behind a journal, in a frame
pub record IsPut (old new : List ℕ) (s : Step) : Type 0 where
  pub text : List ℕ
  pub put : new ≡ old ++ framed text
  pub within : length text < 2 ^ 32
  pub reads : entry_of text ≡ Some (shown_step s)
