use Rattle.denial_laws.proofs.CircleLaws.{name_error_sound}
use Rattle.denial_laws.proofs.laws.name_errors_are_sound.Goals as goal

pub returns : goal.returns
returns c = name_error_sound
