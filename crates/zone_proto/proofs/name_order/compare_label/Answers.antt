use Rattle.std.proofs.Common.{◌<◌, arith, sym, ◌∙◌, length}
use Rattle.std.specs.Char.{to_ascii_lowercase}
use Rattle.zone_proto.proofs.Ordering.FromFront.{front_end}
use Rattle.zone_proto.proofs.name_order.compare_label.Goals as goal
use Rattle.zone_proto.proofs.name_order.compare_label.Goals.{then-loop-i-test+else-i-b, else-loop-i-test}

pub returns : goal.returns
returns c =
    let ended : c.loop-i.i < length c.args.a.now → c.loop-i.i < length c.args.b.now → ⊥ =
    elim c.loop-i-test.branch [ then-loop-i-test+else-i-b w ↦ λ p q. omega arith | else-loop-i-test w ↦ λ p q. omega arith ] in
    c.cmp.ensures
    ∙ sym (front_end to_ascii_lowercase c.args.a.now c.args.b.now c.loop-i.i c.loop-i.invariant.a_in c.loop-i.invariant.b_in ended)
    ∙ c.loop-i.invariant.same
