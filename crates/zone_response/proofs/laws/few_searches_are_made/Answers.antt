use Rattle.zone_response.proofs.FewSearches.{searches_are_few, names_are_few}
use Rattle.zone_response.proofs.laws.few_searches_are_made.Goals as goal

pub returns-clause-searches : goal.returns-clause-searches
returns-clause-searches c = searches_are_few

pub returns-clause-names : goal.returns-clause-names
returns-clause-names c = names_are_few
