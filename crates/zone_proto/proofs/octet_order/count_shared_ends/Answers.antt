use Rattle.std.proofs.Common.{arith}
use Rattle.zone_proto.proofs.Names.SharedEnds.{shared_over_right}
use Rattle.zone_proto.proofs.octet_order.count_shared_ends.Goals as goal

pub returns-else-i-b : goal.returns-else-i-b
returns-else-i-b c =
    omega (arith, c.loop-i.invariant.counted, shared_over_right c.args.a.now c.args.b.now c.loop-i.i c.if-i-b.false)
