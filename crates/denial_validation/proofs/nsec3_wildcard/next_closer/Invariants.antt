use Rattle.std.proofs.Common.{◌≡◌, drop}
use Rattle.denial_validation.proofs.nsec3_wildcard.next_closer.Given as goal

abbrev pub invariant-loop : goal.invariant-loop
invariant-loop l = l.closer ≡ drop l.counter l.fn.name
