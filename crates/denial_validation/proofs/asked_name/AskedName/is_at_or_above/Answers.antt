use Rattle.std.proofs.Common.{◌∙◌}
use Rattle.zone_proto.specs.Names.{lower, is_at_or_above}
use Rattle.denial_validation.proofs.NameTests.{at_or_above_by}
use Rattle.denial_validation.proofs.asked_name.AskedName.is_at_or_above.Goals as goal

pub returns : goal.returns
returns c =
    at_or_above_by (lower c.clone.result) (lower c.clone-2.result) c.labels_are_above.result c.labels_are_above.ensures
    ∙ (λ i. is_at_or_above (lower (c.clone.ensures i)) (lower (c.clone-2.ensures i)))
    ∙ (λ i. is_at_or_above (c.self.view_is i) (c.other.view_is i))
