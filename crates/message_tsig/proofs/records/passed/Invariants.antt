use Rattle.std.proofs.Common.{◌≡◌, ◌-◌, false}
use Rattle.message_tsig.specs.Places.{passed}
use Rattle.message_tsig.proofs.records.passed.Given as goal

abbrev pub invariant-loop : goal.invariant-loop
invariant-loop l = passed (l.count - l.counter) l.found l.rest ≡ passed l.count false l.octets
