use Rattle.hashed_changes.specs.Faults.{StandsForNone}
use Rattle.hashed_changes.proofs.Closed.{passed_on, unclosed_near}
use Rattle.hashed_changes.proofs.around.around_of.Goals as goal

pub returns-in_err-kept-in-Some-clause-unclosed : goal.returns-in_err-kept-in-Some-clause-unclosed
returns-in_err-kept-in-Some-clause-unclosed c =
    passed_on c.from_residual.result _ (StandsForNone c.args.origin.now c.args.zone.now c.args.affected.now) c.from_residual.ensures.1
    (λ e. unclosed_near c.args.origin.now c.args.zone.now c.args.affected.now c.args.owner.now c.in-Some.nearest.now c.in-Some.ensures (c.in_err-kept-in-Some.ensures.unclosed e))
