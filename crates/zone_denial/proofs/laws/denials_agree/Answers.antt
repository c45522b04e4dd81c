use Rattle.zone_denial.proofs.Chain.NsecLists.{denials_agree}
use Rattle.zone_denial.proofs.laws.denials_agree.Goals as goal

pub returns : goal.returns
returns c = denials_agree
