use Rattle.zone_denial.proofs.Hashed.Nsec3Lists.{denials_agree}
use Rattle.zone_denial.proofs.laws.nsec3_denials_agree.Goals as goal

pub returns : goal.returns
returns c = denials_agree
