use Rattle.std.proofs.Common.{length}
use Rattle.zone_proto.proofs.Names.SharedEnds.{IsLeftOf}
use Rattle.zone_proto.proofs.name_order.count_shared.Given as goal

abbrev pub invariant-loop-b : goal.invariant-loop-b
invariant-loop-b l = IsLeftOf l.fn.a l.b l.rest

abbrev pub decreases-loop-b : goal.decreases-loop-b
decreases-loop-b l = length l.rest
