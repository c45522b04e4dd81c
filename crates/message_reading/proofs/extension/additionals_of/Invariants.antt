use Rattle.std.proofs.Common.{◌≡◌, ◌-◌, None}
use Rattle.message_reading.specs.Queries.{additionals_of}
use Rattle.message_reading.proofs.extension.additionals_of.Given as goal

abbrev pub invariant-loop : goal.invariant-loop
invariant-loop l = additionals_of (l.count - l.counter) l.found l.rest ≡ additionals_of l.count None l.octets
