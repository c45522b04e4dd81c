use Rattle.response_laws.proofs.Responses.{response_proves_what_it_says}
use Rattle.response_laws.proofs.laws.responses_prove_what_they_say.Goals as goal

pub returns : goal.returns
returns c = response_proves_what_it_says
