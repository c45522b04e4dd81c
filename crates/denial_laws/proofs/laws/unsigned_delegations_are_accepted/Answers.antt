use Rattle.denial_laws.proofs.CircleLaws.{unsigned_delegation_accepted}
use Rattle.denial_laws.proofs.laws.unsigned_delegations_are_accepted.Goals as goal

pub returns : goal.returns
returns c = unsigned_delegation_accepted
