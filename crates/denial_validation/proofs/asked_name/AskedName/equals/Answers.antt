use Rattle.std.proofs.Common.{ap, ◌∙◌}
use Rattle.std.specs.Ordering.{is_eq}
use Rattle.denial_validation.proofs.NameTests.{same_by_order}
use Rattle.denial_validation.proofs.asked_name.AskedName.equals.Goals as goal

pub returns : goal.returns
returns c = c.is_eq.ensures ∙ ap is_eq c.compare.ensures ∙ same_by_order c.args.self.now c.args.other.now
