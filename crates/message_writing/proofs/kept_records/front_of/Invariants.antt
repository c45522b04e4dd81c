use Rattle.std.proofs.Common.{◌≡◌, ◌≤◌, ◌+◌, length, drop}
use Rattle.zone_proto.specs.Names.{IsName}
use Rattle.message_writing.proofs.kept_records.front_of.Given as goal

abbrev pub invariant-loop-left : goal.invariant-loop-left
invariant-loop-left l = record {
  left : l.left ≡ drop l.labels l.fn.name;
  count : l.labels + length l.left ≡ length l.fn.name;
  few : length l.fn.name ≤ 127;
  valid : IsName l.fn.name;
}

abbrev pub decreases-loop-left : goal.decreases-loop-left
decreases-loop-left l = length l.left
