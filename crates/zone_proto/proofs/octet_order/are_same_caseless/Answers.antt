use Rattle.std.proofs.Common.{◌∙◌, ap}
use Rattle.std.specs.Ordering.{is_eq}
use Rattle.zone_proto.proofs.Ordering.SameFronts.{equal_lowered}
use Rattle.zone_proto.proofs.octet_order.are_same_caseless.Goals as goal

pub returns-then-is_eq : goal.returns-then-is_eq
returns-then-is_eq c =
    equal_lowered c.args.a.now c.args.b.now c.is_eq.result c.if-is_eq.true (c.is_eq.ensures ∙ ap is_eq c.compare_octets.ensures)
