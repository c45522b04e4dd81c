use Rattle.std.proofs.Common.{◌∙◌}
use Rattle.std.specs.Ordering.{nat_cmp}
use Rattle.zone_proto.proofs.Ordering.OctetOrder.{eight_sort}
use Rattle.zone_proto.proofs.octet_order.compare_eight.Goals as goal

pub returns : goal.returns
returns c = c.cmp.ensures ∙ (λ i. nat_cmp (c.from_be_bytes.ensures i) (c.from_be_bytes-2.ensures i)) ∙ eight_sort c.args.a.now c.args.b.now c.told-a c.told-b c.fits-a c.fits-b
