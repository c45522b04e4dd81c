-- To which version the steps lead that are recalled of a journal
use Rattle.std.specs.Prelude.{ℕ, List, [], ◌∷◌, drop, map, Some}
use Rattle.std.specs.List.{AllByRecursion}
use Rattle.zone_proto.specs.Names.{Name, lower}
use Rattle.shown_zones.specs.Shown.{shown}
use Rattle.journal_frames.specs.Journals.{frames_in}
use Rattle.zone_journal.specs.Journals.{IsJournal}
use Rattle.kept_steps.specs.KeptLaws.{IsSent, LeadOn, Version}
use Rattle.recalled_steps.specs.Recalling.{IsRecalledIfAny}
use Rattle.recalled_steps.specs.declared.recalling.Recalled.{Recalled}

-- a version as answers show it
abbrev pub shown_version : Version → Version
shown_version v = record { serial = v.serial; sets = shown v.sets }

-- the last of some versions behind a first one
abbrev pub last_version : Version → List Version → Version
last_version v [] = v
last_version v (w ∷ ws) = last_version w ws

-- the others
abbrev pub versions_before : Version → List Version → List Version
versions_before v [] = []
versions_before v (w ∷ ws) = v ∷ versions_before w ws

-- What is recalled of the journal of versions that can be sent leads to the last of them from the others, or from those behind some of the
-- first; all as answers show them.
abbrev pub RecalledStepsLead : Type 0
RecalledStepsLead = (origin : Name) (v : Version) (vs : List Version) (octets : List ℕ) (most : ℕ) (r : Recalled)
    → IsJournal (lower origin) v.sets (map (λ (w : Version). w.sets) vs) octets → AllByRecursion (IsSent origin) (v ∷ vs)
    → IsRecalledIfAny most (frames_in octets) (Some r)
    → (k : ℕ) × LeadOn origin (drop k (map shown_version (versions_before v vs))) r.steps.steps (shown_version (last_version v vs))
