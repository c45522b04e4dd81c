use Rattle.denial_laws.proofs.Nsec3CircleLaws.{nsec3_wildcard_answer_sound}
use Rattle.denial_laws.proofs.laws.nsec3_wildcard_answers_are_sound.Goals as goal

pub returns : goal.returns
returns c = nsec3_wildcard_answer_sound
