use Rattle.zone_proto.proofs.Ordering.FromLeft.{skip_step}
use Rattle.zone_proto.proofs.name_order.skip.Goals as goal

pub loop-i-preserved : goal.loop-i-preserved
loop-i-preserved c = skip_step c.args.labels c.loop-i.rest c.next.new.self c.next.result c.loop-i.i c.loop-i.invariant c.next.ensures.steps
