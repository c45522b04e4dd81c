use Rattle.denial_laws.proofs.Nsec3CircleLaws.{nsec3_no_data_sound, nsec3_empty_sound, nsec3_wildcard_no_data_sound}
use Rattle.denial_laws.proofs.laws.nsec3_absent_data_are_sound.Goals as goal

pub returns-clause-own : goal.returns-clause-own
returns-clause-own c = nsec3_no_data_sound

pub returns-clause-empty : goal.returns-clause-empty
returns-clause-empty c = nsec3_empty_sound

pub returns-clause-wildcard : goal.returns-clause-wildcard
returns-clause-wildcard c = nsec3_wildcard_no_data_sound
