use Rattle.zone_denial.proofs.Chain.NsecAskedWildcard.{absent_wildcard_is_denied}
use Rattle.zone_denial.proofs.laws.absent_wildcard_is_denied.Goals as goal

pub returns : goal.returns
returns c = absent_wildcard_is_denied
