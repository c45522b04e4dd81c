use Rattle.std.proofs.Common.{sym, ◌∙◌}
use Rattle.zone_proto.specs.Names.{name_cmp}
use Rattle.zone_proto.proofs.Names.Tree.{name_order}
use Rattle.zone_proto.proofs.Ordering.KeyOrder.{equal_of}
use Rattle.zone_verify.proofs.nsec.denied_at.Goals as goal

pub returns-in-Some-clause-name : goal.returns-in-Some-clause-name
returns-in-Some-clause-name c =
    let here = c.in-Some.denied.site.name.now in
    name_order.exact here c.args.key.now.name (equal_of (name_cmp here c.args.key.now.name) (sym c.eq.ensures ∙ c.if-eq.true))
