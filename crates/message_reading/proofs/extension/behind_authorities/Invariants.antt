use Rattle.std.proofs.Common.{◌≡◌, ◌-◌}
use Rattle.message_reading.specs.Queries.{behind_authorities}
use Rattle.message_reading.proofs.extension.behind_authorities.Given as goal

abbrev pub invariant-loop : goal.invariant-loop
invariant-loop l = behind_authorities (l.count - l.counter) l.rest ≡ behind_authorities l.count l.octets
