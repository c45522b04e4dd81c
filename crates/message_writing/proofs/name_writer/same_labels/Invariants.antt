use Rattle.std.proofs.Common.{◌≡◌}
use Rattle.message_writing.proofs.name_writer.same_labels.Given as goal

abbrev pub invariant-loop-label : goal.invariant-loop-label
invariant-loop-label l = l.label-iterator ≡ l.left → l.fn.labels ≡ l.fn.others
