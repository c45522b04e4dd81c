use Rattle.std.proofs.Common.{◌≡◌, ◌-◌}
use Rattle.message_options.specs.Options.{opt_within}
use Rattle.message_options.proofs.finding.opt_within.Given as goal

abbrev pub invariant-loop : goal.invariant-loop
invariant-loop l = opt_within (l.count - l.counter) l.rest ≡ opt_within l.count l.records
