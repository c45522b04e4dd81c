use Rattle.std.proofs.Common.{◌≡◌}
use Rattle.std.specs.Prelude.{None}
use Rattle.std.specs.Vec.Iter.{into_iter_items}
use Rattle.recalled_steps.specs.Recalling.{all_noted, serial_behind}
use Rattle.recalled_steps.proofs.recalling.note_all.Given as goal

-- what is left leads to where all steps lead
abbrev pub invariant-loop-step : goal.invariant-loop-step
invariant-loop-step l =
    (all_noted l.kept (into_iter_items l.step-iterator) ≡ all_noted l.fn.kept l.fn.steps.items)
    × (serial_behind l.serial (into_iter_items l.step-iterator) ≡ serial_behind None l.fn.steps.items)
