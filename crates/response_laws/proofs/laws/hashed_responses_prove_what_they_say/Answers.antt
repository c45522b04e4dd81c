use Rattle.response_laws.proofs.Responses.{response_proves_by_hashes}
use Rattle.response_laws.proofs.laws.hashed_responses_prove_what_they_say.Goals as goal

pub returns : goal.returns
returns c = response_proves_by_hashes
