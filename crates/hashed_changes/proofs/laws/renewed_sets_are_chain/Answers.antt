use Rattle.hashed_changes.proofs.RenewedCircle.{renewed_are_made, renewed_is_nsec3_zone, renewed_is_nsec3_chain}
use Rattle.hashed_changes.proofs.Renewing.{standing_is_change}
use Rattle.hashed_changes.proofs.laws.renewed_sets_are_chain.Goals as goal

pub returns-clause-made : goal.returns-clause-made
returns-clause-made c = renewed_are_made

pub returns-clause-circle : goal.returns-clause-circle
returns-clause-circle c = renewed_is_nsec3_zone

pub returns-clause-chain : goal.returns-clause-chain
returns-clause-chain c = renewed_is_nsec3_chain

pub returns-clause-change : goal.returns-clause-change
returns-clause-change c = standing_is_change
