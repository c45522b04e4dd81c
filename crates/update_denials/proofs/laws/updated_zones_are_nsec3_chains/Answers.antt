use Rattle.update_denials.proofs.Updated.{updated_is_nsec3_chain, updated_nsec3_sets_stay}
use Rattle.update_denials.proofs.laws.updated_zones_are_nsec3_chains.Goals as goal

pub returns-clause-chain : goal.returns-clause-chain
returns-clause-chain c = updated_is_nsec3_chain

pub returns-clause-all : goal.returns-clause-all
returns-clause-all c = updated_nsec3_sets_stay
