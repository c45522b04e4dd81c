use Rattle.zone_denial.proofs.Hashed.Nsec3AskedWildcard.{absent_wildcard_is_denied}
use Rattle.zone_denial.proofs.laws.nsec3_absent_wildcard_is_denied.Goals as goal

pub returns : goal.returns
returns c = absent_wildcard_is_denied
