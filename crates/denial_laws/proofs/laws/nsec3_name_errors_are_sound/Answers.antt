use Rattle.denial_laws.proofs.Nsec3CircleLaws.{nsec3_name_error_sound}
use Rattle.denial_laws.proofs.laws.nsec3_name_errors_are_sound.Goals as goal

pub returns : goal.returns
returns c = nsec3_name_error_sound
