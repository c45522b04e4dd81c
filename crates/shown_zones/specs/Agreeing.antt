-- Steps as differences
use Rattle.std.specs.Prelude.{◌≡◌}
use Rattle.zone_difference.specs.declared.difference.Difference.{Difference}
use Rattle.shown_zones.specs.Steps.{given_in, step_of, taken_in}
use Rattle.shown_zones.specs.declared.step.ZoneStep.{ZoneStep}

-- a difference takes out and gives the sets of a step
pub record IsOfStep (s : ZoneStep) (d : Difference) : Type 0 where
  pub taken : d.taken.items ≡ taken_in (step_of s)
  pub given : d.given.items ≡ given_in (step_of s)
