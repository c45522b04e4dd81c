use Rattle.std.proofs.Common.{ap, ◌∙◌, arith}
use Rattle.std.specs.Prelude.{Some}
use Rattle.zone_response.proofs.LabelCounts.{of_last, shorter}
use Rattle.zone_response.proofs.hashed_denials.of_labels.Goals as goal

pub returns-then-num_labels-count-clause-ok : goal.returns-then-num_labels-count-clause-ok
returns-then-num_labels-count-clause-ok c = shorter c.args.count c.args.name.now (omega (arith, c.num_labels.ensures.count, c.if-num_labels-count.true))

pub returns-clause-ok : goal.returns-clause-ok
returns-clause-ok c = ap Some c.in_ok-ancestor.ensures.ok ∙ of_last c.args.count c.args.name.now (omega (arith, c.num_labels.ensures.count, c.if-num_labels-count.false))
