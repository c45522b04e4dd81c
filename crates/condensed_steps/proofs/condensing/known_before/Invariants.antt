use Rattle.std.proofs.Common.{◌≡◌, length, map, []}
use Rattle.shown_zones.specs.Steps.{step_of}
use Rattle.condensed_steps.specs.Condensing.{before_all}
use Rattle.condensed_steps.proofs.condensing.known_before.Given as goal

-- what is left, undone, leads to where all do
abbrev pub invariant-loop-step : goal.invariant-loop-step
invariant-loop-step l = before_all l.sets (map step_of l.rest) ≡ before_all [] (map step_of l.steps)

abbrev pub decreases-loop-step : goal.decreases-loop-step
decreases-loop-step l = length l.rest
