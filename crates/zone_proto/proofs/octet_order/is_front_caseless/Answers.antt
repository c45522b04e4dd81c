use Rattle.zone_proto.proofs.Ordering.SameFronts.{front_test}
use Rattle.zone_proto.proofs.octet_order.is_front_caseless.Goals as goal

pub returns-then-front-whole : goal.returns-then-front-whole
returns-then-front-whole c =
    front_test c.args.front.now c.args.whole.now c.are_same_caseless.result c.if-front-whole.true c.are_same_caseless.ensures
