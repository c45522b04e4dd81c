use Rattle.std.proofs.Common.{◌≡◌, ◌≤◌, ◌+◌, length, drop}
use Rattle.message_writing.proofs.name_writer.cut_of.Given as goal

abbrev pub invariant-loop-first : goal.invariant-loop-first
invariant-loop-first l = record {
  left : l.left ≡ drop l.labels l.fn.name;
  count : l.labels + length l.left ≡ length l.fn.name;
  few : length l.fn.name ≤ 127;
}

abbrev pub decreases-loop-first : goal.decreases-loop-first
decreases-loop-first l = length l.left
