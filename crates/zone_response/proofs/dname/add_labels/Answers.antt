use Rattle.std.proofs.Common.{◌-◌, arith}
use Rattle.zone_response.proofs.NewNames.{label_added}
use Rattle.zone_response.proofs.dname.add_labels.Goals as goal

pub loop-label-preserved : goal.loop-label-preserved
loop-label-preserved c =
    label_added c.loop-label.list.items c.push.new.list.items c.in_ok-from_slice.field-0 c.in-Some.label.now c.loop-label.label-iterator c.next.new.self c.loop-label.left (c.loop-label.left - 1) _
    c.in_ok-push.ensures.ok c.in_ok-from_slice.ensures.items c.in-Some.ensures.steps (omega arith) c.loop-label.invariant
