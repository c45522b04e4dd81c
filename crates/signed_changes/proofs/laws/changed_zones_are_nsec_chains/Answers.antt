use Rattle.signed_changes.proofs.ClosedChain.{changed_is_nsec_chain}
use Rattle.signed_changes.proofs.laws.changed_zones_are_nsec_chains.Goals as goal

pub returns : goal.returns
returns c = changed_is_nsec_chain
