use Rattle.journal_calls.proofs.PlanTelling.{plans_are_told}
use Rattle.journal_calls.proofs.laws.plans_are_told.Goals as goal

pub returns : goal.returns
returns c = plans_are_told
