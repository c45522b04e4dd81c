use Rattle.denial_laws.proofs.Nsec3CircleLaws.{nsec3_absence_sound, nsec3_opt_out_sound}
use Rattle.denial_laws.proofs.laws.nsec3_absences_are_sound.Goals as goal

pub returns-clause-absence : goal.returns-clause-absence
returns-clause-absence c = nsec3_absence_sound

pub returns-clause-all : goal.returns-clause-all
returns-clause-all c = nsec3_opt_out_sound
