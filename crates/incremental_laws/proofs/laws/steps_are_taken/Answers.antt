use Rattle.incremental_laws.proofs.Taken.{steps_are_taken}
use Rattle.incremental_laws.proofs.laws.steps_are_taken.Goals as goal

pub returns : goal.returns
returns c = steps_are_taken c.differences_are_taken.ensures
