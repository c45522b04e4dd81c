use Rattle.signing_laws.proofs.TrimmedHashed.{trimmed_is_nsec3_chain}
use Rattle.signing_laws.proofs.laws.trimmed_sets_are_nsec3_chain.Goals as goal

pub returns : goal.returns
returns c = trimmed_is_nsec3_chain
