use Rattle.response_laws.proofs.Responses.{response_says_how_it_ends}
use Rattle.response_laws.proofs.laws.responses_say_how_they_end.Goals as goal

pub returns : goal.returns
returns c = response_says_how_it_ends
