use Rattle.update_denials.proofs.Updated.{updated_is_nsec_chain}
use Rattle.update_denials.proofs.laws.updated_zones_are_nsec_chains.Goals as goal

pub returns : goal.returns
returns c = updated_is_nsec_chain
