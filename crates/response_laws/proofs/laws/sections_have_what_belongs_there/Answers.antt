use Rattle.response_laws.proofs.Filled.{negative_ttl_is_lesser}
use Rattle.response_laws.proofs.Responses.{response_has_contents}
use Rattle.response_laws.proofs.laws.sections_have_what_belongs_there.Goals as goal

pub returns-clause-contents : goal.returns-clause-contents
returns-clause-contents c = response_has_contents

pub returns-clause-negative_ttl : goal.returns-clause-negative_ttl
returns-clause-negative_ttl c = negative_ttl_is_lesser
