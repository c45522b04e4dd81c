use Rattle.std.proofs.Common.{sym, ◌∙◌}
use Rattle.zone_response.specs.Paths.{is_sought}
use Rattle.zone_response.proofs.SetLists.{passes_among}
use Rattle.zone_response.proofs.dname_repeats.is_answered.Goals as goal

pub returns-then-branch-clause-ok : goal.returns-then-branch-clause-ok
returns-then-branch-clause-ok c =
    sym
    (passes_among (is_sought c.args.record_type.0 c.args.name.now) c.args.answers.now c.loop-item.item-index c.item-item.result c.loop-item-test.true c.item-item.is
    (sym c.in_ok-is_sought.ensures.ok ∙ c.if-branch.true))
