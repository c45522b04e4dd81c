use Rattle.response_laws.proofs.Repeats.{sets_stand_once}
use Rattle.response_laws.proofs.laws.sets_stand_once.Goals as goal

pub returns : goal.returns
returns c = sets_stand_once
