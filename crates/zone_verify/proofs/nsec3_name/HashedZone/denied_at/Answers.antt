use Rattle.std.proofs.Common.{sym, ◌∙◌}
use Rattle.zone_proto.specs.Names.{name_cmp}
use Rattle.zone_proto.proofs.Names.Tree.{name_order}
use Rattle.zone_proto.proofs.Ordering.KeyOrder.{equal_of}
use Rattle.zone_verify.proofs.nsec3_name.HashedZone.denied_at.Goals as goal

pub returns-then-eq-clause-name : goal.returns-then-eq-clause-name
returns-then-eq-clause-name g c =
    let here = c.args.denied.site.name.now in
    name_order.exact here c.args.key.now.name (equal_of (name_cmp here c.args.key.now.name) (sym c.eq.ensures ∙ c.if-eq.true))
