use Rattle.denial_laws.proofs.Nsec3CircleLaws.{nsec3_denial_accepted}
use Rattle.denial_laws.proofs.laws.nsec3_denials_are_accepted.Goals as goal

pub returns : goal.returns
returns c = nsec3_denial_accepted
