use Rattle.std.proofs.Common.{◌≡◌, ◌-◌}
use Rattle.message_options.specs.Options.{option_value}
use Rattle.message_options.proofs.finding.option_value.Given as goal

abbrev pub invariant-loop : goal.invariant-loop
invariant-loop l = option_value (64 - l.counter) l.code l.rest ≡ option_value 64 l.code l.options
