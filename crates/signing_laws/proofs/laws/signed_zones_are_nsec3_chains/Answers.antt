use Rattle.signing_laws.proofs.SignedHashed.{signed_is_nsec3_chain, signed_sets_stay}
use Rattle.signing_laws.proofs.laws.signed_zones_are_nsec3_chains.Goals as goal

pub returns-clause-chain : goal.returns-clause-chain
returns-clause-chain c = signed_is_nsec3_chain

pub returns-clause-all : goal.returns-clause-all
returns-clause-all c = signed_sets_stay
