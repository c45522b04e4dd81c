use Rattle.std.proofs.Common.{◌≡◌, ◌-◌, length, arith, sym, ◌∙◌}
use Rattle.zone_proto.proofs.Names.Tree.{name_order}
use Rattle.zone_proto.proofs.Ordering.KeyOrder.{equal_of}
use Rattle.zone_map.proofs.owner_index.is_last.Goals as goal

pub returns-in-Some : goal.returns-in-Some
returns-in-Some c = λ h.
    let i = c.in-Some.ensures.item in
    let same : c.in-Some.last.now ≡ c.args.name.now = name_order.exact c.in-Some.last.now c.args.name.now (equal_of _ (sym c.eq.ensures ∙ h)) in
    (length c.args.names.now - 1, omega (arith, i.3.0), sym (i.3.1 c.args.name.now) ∙ same)
