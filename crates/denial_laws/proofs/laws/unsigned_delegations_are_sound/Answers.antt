use Rattle.denial_laws.proofs.CircleLaws.{unsigned_delegation_sound}
use Rattle.denial_laws.proofs.laws.unsigned_delegations_are_sound.Goals as goal

pub returns : goal.returns
returns c = unsigned_delegation_sound
