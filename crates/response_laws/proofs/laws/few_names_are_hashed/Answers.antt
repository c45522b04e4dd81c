use Rattle.response_laws.proofs.HashCounts.{few_names_are_hashed}
use Rattle.response_laws.proofs.laws.few_names_are_hashed.Goals as goal

pub returns : goal.returns
returns c = few_names_are_hashed
