use Rattle.std.proofs.Common.{◌≡◌, ◌-◌}
use Rattle.record_fields.specs.Locations.{power_form}
use Rattle.record_fields.proofs.locations.power_form.Given as goal

abbrev pub invariant-loop-exponent : goal.invariant-loop-exponent
invariant-loop-exponent l = power_form (10 - l.exponent) l.exponent l.left ≡ power_form 10 0 l.fn.number
