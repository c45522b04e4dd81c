use Rattle.std.proofs.Common.{◌≡◌, ◌-◌}
use Rattle.message_reading.specs.Queries.{are_options}
use Rattle.message_reading.proofs.options.are_options.Given as goal

abbrev pub invariant-loop : goal.invariant-loop
invariant-loop l = are_options (65 - l.counter) l.rest ≡ are_options 65 l.octets
