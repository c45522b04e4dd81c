use Rattle.denial_laws.proofs.Nsec3CircleLaws.{nsec3_wildcard_error_accepted}
use Rattle.denial_laws.proofs.laws.nsec3_wildcard_errors_are_accepted.Goals as goal

pub returns : goal.returns
returns c = nsec3_wildcard_error_accepted
