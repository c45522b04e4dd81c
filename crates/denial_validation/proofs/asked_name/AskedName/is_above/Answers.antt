use Rattle.std.proofs.Common.{sym, ◌∙◌}
use Rattle.zone_proto.specs.Names.{lower, is_above}
use Rattle.denial_validation.proofs.NameTests.{at_or_above_by, above_by_parent}
use Rattle.denial_validation.proofs.asked_name.AskedName.is_above.Goals as goal

pub returns-then-is_some : goal.returns-then-is_some
returns-then-is_some c =
    above_by_parent (lower c.clone.result) c.clone-parent.result c.next.new.self c.next.result c.labels_are_above.result c.next.ensures.steps
    (sym c.is_some.ensures ∙ c.if-is_some.true)
    (at_or_above_by (lower c.clone.result) (lower c.next.new.self) c.labels_are_above.result c.labels_are_above.ensures)
    ∙ (λ i. is_above (lower (c.clone.ensures i)) (lower (c.clone-parent.ensures i)))
    ∙ (λ i. is_above (c.self.view_is i) (c.other.view_is i))
