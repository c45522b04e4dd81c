use Rattle.std.proofs.Common.{◌≡◌, drop, map, []}
use Rattle.shown_zones.specs.Steps.{step_of}
use Rattle.condensed_steps.specs.Condensing.{behind_all}
use Rattle.condensed_steps.proofs.condensing.known_behind.Given as goal

-- the steps that are left lead to where all do
abbrev pub invariant-loop-step : goal.invariant-loop-step
invariant-loop-step l = behind_all l.sets (map step_of (drop l.step-index l.steps)) ≡ behind_all [] (map step_of l.steps)
