use Rattle.denial_laws.proofs.CircleLaws.{no_data_sound, empty_sound, wildcard_no_data_sound}
use Rattle.denial_laws.proofs.laws.absent_data_are_sound.Goals as goal

pub returns-clause-own : goal.returns-clause-own
returns-clause-own c = no_data_sound

pub returns-clause-empty : goal.returns-clause-empty
returns-clause-empty c = empty_sound

pub returns-clause-wildcard : goal.returns-clause-wildcard
returns-clause-wildcard c = wildcard_no_data_sound
