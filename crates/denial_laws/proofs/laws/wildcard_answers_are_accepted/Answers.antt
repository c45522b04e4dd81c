use Rattle.denial_laws.proofs.CircleLaws.{wildcard_answer_accepted}
use Rattle.denial_laws.proofs.laws.wildcard_answers_are_accepted.Goals as goal

pub returns : goal.returns
returns c = wildcard_answer_accepted
