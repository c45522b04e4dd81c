-- What is kept of a zone by its journal
use Rattle.std.specs.Prelude.{◌≡◌, ℕ, ◌==◌, Bool, false, if◌then◌else◌, List, [], Option, Some, None}
use Rattle.std.specs.Arc.{arc_value}
use Rattle.journal_frames.specs.Journals.{frames_in}
use Rattle.zone_database.specs.declared.zone.Zone.{Zone}
use Rattle.kept_steps.specs.Kept.{Kept}
use Rattle.recalled_steps.specs.Recalling.{IsRecalledIfAny}
use Rattle.recalled_steps.specs.declared.recalling.Recalled.{Recalled}
use Rattle.held_steps.specs.Histories.{history_of, most_in, IsPut}
use Rattle.held_steps.specs.Lacking.{serial_in}
use Rattle.held_steps.specs.declared.histories.HeldSteps.{HeldSteps}
use Rattle.held_steps.specs.declared.history.ZoneHistory.{ZoneHistory}

-- the version that was reached has this serial
abbrev pub leads_to : Option ℕ → Option ℕ → Bool
leads_to (Some reached) (Some serial) = reached == serial
leads_to (Some reached) None = false
leads_to None serial = false

-- the steps that were recalled if they lead to the version of a serial, and else none
abbrev pub recalled_to : Option ℕ → ℕ → Option Recalled → Kept
recalled_to serial most None = record { most = most; steps = [] }
recalled_to serial most (Some r) = if leads_to r.serial serial then r.steps else record { most = most; steps = [] }

-- a version is kept with the steps of its journal
pub record IsRecalledHistory (z : Zone) (most : ℕ) (journal : List ℕ) (h : ZoneHistory) : Type 0 where
  pub newest : arc_value h.newest ≡ z
  pub found : Option Recalled
  pub recalled : IsRecalledIfAny most (frames_in journal) found
  pub steps : h.steps ≡ recalled_to (serial_in z) most found

-- it is in place of what was kept of the zone
pub record IsRecalledIn (z : Zone) (journal : List ℕ) (old new : HeldSteps) : Type 0 where
  pub history : ZoneHistory
  pub recalled : IsRecalledHistory z (most_in old) journal history
  pub put : IsPut z.origin (Some history) (history_of old) (history_of new)
  pub most : most_in new ≡ most_in old
