use Rattle.std.proofs.Common.{arith, eqb-true}
use Rattle.zone_response.proofs.UnderApex.{child_by_length}
use Rattle.zone_response.proofs.names.is_child.Goals as goal

pub returns : goal.returns
returns c = λ t.
    child_by_length c.args.top.now c.args.name.now c.requires
    (omega (arith, eqb-true _ _ t, c.saturating_sub.ensures, c.num_labels.ensures.count, c.num_labels-2.ensures.count))
