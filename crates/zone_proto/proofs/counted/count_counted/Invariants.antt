use Rattle.std.proofs.Common.{◌≡◌, ◌+◌, length}
use Rattle.zone_proto.specs.Counting.{counted_name, IsCounting}
use Rattle.zone_proto.proofs.counted.count_counted.Given as goal

abbrev pub invariant-loop-after : goal.invariant-loop-after
invariant-loop-after l = record {
  left : IsCounting l.rest (counted_name l.rest);
  counted : l.count + length (counted_name l.rest) ≡ length (counted_name l.octets);
}

abbrev pub decreases-loop-after : goal.decreases-loop-after
decreases-loop-after l = length (counted_name l.rest)
