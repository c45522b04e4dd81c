use Rattle.std.proofs.Common.{length}
use Rattle.zone_proto.specs.Counting.{counted_name, IsCounting}
use Rattle.zone_proto.specs.Packing.{IsPackable}
use Rattle.zone_proto.proofs.wire_reader.are_inner.Given as goal

abbrev pub invariant-loop-label : goal.invariant-loop-label
invariant-loop-label l = record {
  counting : IsCounting l.rest (counted_name l.rest);
  packable : IsPackable (counted_name l.rest) → IsPackable (counted_name l.labels);
}

abbrev pub decreases-loop-label : goal.decreases-loop-label
decreases-loop-label l = length l.rest
