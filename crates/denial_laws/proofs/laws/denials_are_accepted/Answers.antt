use Rattle.denial_laws.proofs.CircleLaws.{denial_accepted}
use Rattle.denial_laws.proofs.laws.denials_are_accepted.Goals as goal

pub returns : goal.returns
returns c = denial_accepted
