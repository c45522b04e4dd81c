use Rattle.std.proofs.Common.{◌-◌}
use Rattle.message_writing.proofs.KnownLabels.{IsBeside}
use Rattle.message_writing.proofs.known_names.stands_at.Given as goal

abbrev pub invariant-loop : goal.invariant-loop
invariant-loop l = IsBeside l.out l.offset l.fn.labels (127 - l.counter) l.before l.octets l.left
