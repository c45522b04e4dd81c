use Rattle.std.proofs.Common.{◌≡◌, length}
use Rattle.kept_steps.specs.Giving.{from_only}
use Rattle.kept_steps.proofs.giving.from_only.Given as goal

-- what is given from here on is what is given of all
abbrev pub invariant-loop-step : goal.invariant-loop-step
invariant-loop-step l = from_only l.serial l.rest ≡ from_only l.serial l.steps

abbrev pub decreases-loop-step : goal.decreases-loop-step
decreases-loop-step l = length l.rest
