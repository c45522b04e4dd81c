use Rattle.std.proofs.Common.{◌≡◌, ◌≤◌, ◌*◌}
use Rattle.zone_tokens.specs.Moments.{days_in_months}
use Rattle.zone_tokens.proofs.moments.days_before_month.Given as goal

abbrev pub invariant-loop-before : goal.invariant-loop-before
invariant-loop-before l = record { days_is : l.days ≡ days_in_months l.leap l.before; small : l.days ≤ 31 * l.before }
