-- What is recalled
use Rattle.std.proofs.Common.{◌≡◌, ℕ, List, [], sym}
use Rattle.std.specs.Prelude.{map, Some, None}
use Rattle.shown_zones.specs.Steps.{step_of}
use Rattle.shown_zones.specs.declared.step.ZoneStep.{ZoneStep}
use Rattle.zone_journal.specs.Replays.{steps_of}
use Rattle.recalled_steps.specs.Recalling.{all_noted, serial_behind, IsRecalledIfAny}
use Rattle.recalled_steps.specs.declared.recalling.Recalled.{Recalled}

pub recalled_so : (most : ℕ) (texts : List (List ℕ)) (ss : List ZoneStep) (r : Recalled) → Some (map step_of ss) ≡ steps_of texts
    → r.steps ≡ all_noted (record { most = most; steps = [] }) ss → r.serial ≡ serial_behind None ss → IsRecalledIfAny most texts (Some r)
recalled_so most texts ss r found steps serial = (ss, sym found, record { steps = steps; serial = serial })

pub recalled_none : (most : ℕ) (texts : List (List ℕ)) → None ≡ steps_of texts → IsRecalledIfAny most texts None
recalled_none most texts none = sym none
