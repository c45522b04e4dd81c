use Rattle.chain_changes.proofs.SignedChain.{renewed_stays_chain}
use Rattle.chain_changes.proofs.SignedSets.{trimmed_is_signed}
use Rattle.chain_changes.proofs.laws.renewed_chains_stay.Goals as goal

pub returns-clause-made : goal.returns-clause-made
returns-clause-made c = trimmed_is_signed

pub returns-clause-renewed : goal.returns-clause-renewed
returns-clause-renewed c = renewed_stays_chain
