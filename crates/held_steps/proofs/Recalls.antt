-- What is kept of a zone by its journal
use Rattle.std.proofs.Common.{◌≡◌, ℕ, List, ap, ◌∙◌, subst}
use Rattle.std.specs.Prelude.{Option, Some}
use Rattle.std.specs.Arc.{arc_value}
use Rattle.std.specs.BTreeMap.{UpdatesBy}
use Rattle.std.specs.declared.alloc.Global.{Global}
use Rattle.std.specs.declared.sync.Arc.{Arc}
use Rattle.journal_frames.specs.Journals.{frames_in}
use Rattle.zone_proto.specs.Names.{name_cmp}
use Rattle.zone_database.specs.declared.zone.Zone.{Zone}
use Rattle.recalled_steps.specs.Recalling.{IsRecalledIfAny}
use Rattle.recalled_steps.specs.declared.recalling.Recalled.{Recalled}
use Rattle.held_steps.specs.Histories.{most_in}
use Rattle.held_steps.specs.Lacking.{serial_in}
use Rattle.held_steps.specs.Recalling.{recalled_to, IsRecalledHistory, IsRecalledIn}
use Rattle.held_steps.specs.declared.histories.HeldSteps.{HeldSteps}
use Rattle.held_steps.specs.declared.history.ZoneHistory.{ZoneHistory}

pub recalled_so : (h : ZoneHistory) (newest : Arc Zone Global) (version : Zone) (most : ℕ) (journal : List ℕ) (serial : Option ℕ) (found : Option Recalled) → h.newest ≡ newest
    → version ≡ arc_value newest → serial ≡ serial_in version → IsRecalledIfAny most (frames_in journal) found → h.steps ≡ recalled_to serial most found
    → IsRecalledHistory (arc_value newest) most journal h
recalled_so h newest version most journal serial found is same by recalled steps =
    record { newest = ap arc_value is; found = found; recalled = recalled; steps = steps ∙ ap (λ (s : Option ℕ). recalled_to s most found) (by ∙ ap serial_in same) }

pub recalled_in : (z : Zone) (journal : List ℕ) (old new : HeldSteps) (h : ZoneHistory) → most_in new ≡ most_in old → IsRecalledHistory z (most_in old) journal h
    → UpdatesBy name_cmp (name_cmp z.origin) old.histories new.histories (Some h) → IsRecalledIn z journal old new
recalled_in z journal old new h most recalled updates = record { history = h; recalled = recalled; put = updates.0; most = most }
