use Rattle.std.proofs.Common.{length}
use Rattle.zone_proto.proofs.Names.WireLabels.{IsReadUpTo}
use Rattle.zone_proto.proofs.wire_reader.check_wire.Given as goal

abbrev pub invariant-loop-first : goal.invariant-loop-first
invariant-loop-first l = IsReadUpTo l.octets l.rest l.fault

abbrev pub decreases-loop-first : goal.decreases-loop-first
decreases-loop-first l = length l.rest
