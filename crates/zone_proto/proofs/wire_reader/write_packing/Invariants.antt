use Rattle.std.proofs.Common.{length}
use Rattle.zone_proto.proofs.Names.WireLabels.{IsWrittenFrom}
use Rattle.zone_proto.proofs.wire_reader.write_packing.Given as goal

abbrev pub invariant-loop-label : goal.invariant-loop-label
invariant-loop-label l = IsWrittenFrom l.octets l.labels l.rest

abbrev pub decreases-loop-label : goal.decreases-loop-label
decreases-loop-label l = length l.rest
