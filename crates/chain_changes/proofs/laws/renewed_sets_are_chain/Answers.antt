use Rattle.chain_changes.proofs.RenewedCircle.{renewed_is_circle}
use Rattle.chain_changes.proofs.TrimmedChain.{renewed_is_nsec_chain}
use Rattle.chain_changes.proofs.laws.renewed_sets_are_chain.Goals as goal

pub returns-clause-circle : goal.returns-clause-circle
returns-clause-circle c = renewed_is_circle

pub returns-clause-chain : goal.returns-clause-chain
returns-clause-chain c = renewed_is_nsec_chain
