-- When a step is taken
use Rattle.std.specs.Prelude.{ℕ, nat_lt, if◌then◌else◌, Option, Some, None, Result, Ok, Err}
use Rattle.zone_rollover.specs.declared.steps.Due.{Due}
use Rattle.zone_rollover.specs.declared.steps.StepFault.{StepFault}
use Rattle.zone_rollover.specs.declared.steps.StepFault.TheVariants.{TooEarly, TooLate, Over}
use Rattle.zone_signing.specs.Signatures.{last_moment}

-- the step that is due is taken from its moment on, and not past the year 9999
abbrev pub allowed : Option Due → ℕ → Result Unit StepFault
allowed None moment = Err Over
allowed (Some due) moment =
    if nat_lt moment due.from then Err (TooEarly due.from)
    else (if nat_lt last_moment moment then Err TooLate else Ok tt)
