use Rattle.zone_denial.proofs.Hashed.Nsec3AskedWildcard.{enclosers_agree, proved_wildcard_is_asked}
use Rattle.zone_denial.proofs.laws.nsec3_enclosers_agree.Goals as goal

pub returns-clause-encloser : goal.returns-clause-encloser
returns-clause-encloser c = enclosers_agree

pub returns-clause-wildcard : goal.returns-clause-wildcard
returns-clause-wildcard c = proved_wildcard_is_asked
