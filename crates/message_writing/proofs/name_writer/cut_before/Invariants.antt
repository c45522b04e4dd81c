use Rattle.std.proofs.Common.{◌≡◌, ◌-◌, drop}
use Rattle.message_writing.proofs.name_writer.cut_before.Given as goal

abbrev pub invariant-loop-labels : goal.invariant-loop-labels
invariant-loop-labels l = l.left ≡ drop (l.labels - 1) l.fn.name
