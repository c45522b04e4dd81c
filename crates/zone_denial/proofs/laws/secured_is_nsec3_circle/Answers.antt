use Rattle.zone_denial.proofs.Hashed.Nsec3Secured.{secured_is_nsec3_circle}
use Rattle.zone_denial.proofs.laws.secured_is_nsec3_circle.Goals as goal

pub returns : goal.returns
returns c = secured_is_nsec3_circle
