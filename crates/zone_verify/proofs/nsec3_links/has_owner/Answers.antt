use Rattle.std.proofs.Common.{sym, ap, ◌∙◌, get_or, arith}
use Rattle.zone_proto.specs.Names.{Name, name_cmp}
use Rattle.zone_verify.specs.declared.nsec3_name.ChainName.{ChainName}
use Rattle.zone_proto.proofs.Names.Tree.{name_order}
use Rattle.zone_proto.proofs.Ordering.KeyOrder.{equal_of}
use Rattle.zone_verify.proofs.nsec3_links.has_owner.Goals as goal

pub returns : goal.returns
returns c = λ h.
    let x = c.index-names-place.result in
    let y : ChainName = get_or c.args.names.now c.args.place x in
    let o : Name = c.args.owner.now in
    (x, (c.args.place, omega (arith, c.if-place-names.false), sym c.index-names-place.is), ap (λ (d : ChainName). d.owner) c.index-names-place.is ∙ name_order.exact y.owner o (equal_of (name_cmp y.owner o) (sym c.eq.ensures ∙ h)))
