use Rattle.incremental_laws.proofs.Made.{steps_make_the_newest}
use Rattle.incremental_laws.proofs.laws.steps_make_the_newest.Goals as goal

pub returns : goal.returns
returns c = steps_make_the_newest
