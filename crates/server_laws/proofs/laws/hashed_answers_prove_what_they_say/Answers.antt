use Rattle.server_laws.proofs.ReadAnswers.{answer_proves_by_hashes}
use Rattle.server_laws.proofs.laws.hashed_answers_prove_what_they_say.Goals as goal

pub returns : goal.returns
returns c = answer_proves_by_hashes
