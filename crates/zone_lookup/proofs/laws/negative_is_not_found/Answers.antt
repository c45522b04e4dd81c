use Rattle.zone_lookup.proofs.NegativeReplies.{negative_is_not_found, negative_by_name}
use Rattle.zone_lookup.proofs.laws.negative_is_not_found.Goals as goal

pub returns-clause-found : goal.returns-clause-found
returns-clause-found c = negative_is_not_found

pub returns-clause-by_name : goal.returns-clause-by_name
returns-clause-by_name c = negative_by_name
