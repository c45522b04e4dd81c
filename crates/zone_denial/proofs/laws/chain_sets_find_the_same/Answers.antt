use Rattle.zone_denial.proofs.Chains.SameSets.{keep_sets, keep_names, keep_found}
use Rattle.zone_denial.proofs.laws.chain_sets_find_the_same.Goals as goal

pub returns-clause-sets : goal.returns-clause-sets
returns-clause-sets c = keep_sets

pub returns-clause-found : goal.returns-clause-found
returns-clause-found c = keep_found

pub returns-clause-names : goal.returns-clause-names
returns-clause-names c = keep_names
