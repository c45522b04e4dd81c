use Rattle.held_plans.proofs.Finished.{finished_secured}
use Rattle.held_plans.proofs.laws.finished_plans_are_secured.Goals as goal

pub returns : goal.returns
returns c = finished_secured
