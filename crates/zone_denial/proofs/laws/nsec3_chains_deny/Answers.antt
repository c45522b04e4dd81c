use Rattle.zone_denial.proofs.Chains.Nsec3AskedWildcard.{enclosers_agree, proved_wildcard_is_asked, absent_wildcard_is_denied}
use Rattle.zone_denial.proofs.Chains.Nsec3Denies.{denies, covers_closer}
use Rattle.zone_denial.proofs.Chains.Nsec3Encloses.{finds_or_encloses}
use Rattle.zone_denial.proofs.Chains.Nsec3Lists.{lists_all_owned, denials_agree}
use Rattle.zone_denial.proofs.Chains.Nsec3Wildcard.{proves_wildcard}
use Rattle.zone_denial.proofs.laws.nsec3_chains_deny.Goals as goal

pub returns-clause-found_or_enclosed : goal.returns-clause-found_or_enclosed
returns-clause-found_or_enclosed c = finds_or_encloses

pub returns-clause-wildcard : goal.returns-clause-wildcard
returns-clause-wildcard c = proves_wildcard

pub returns-clause-denied : goal.returns-clause-denied
returns-clause-denied c = denies

pub returns-clause-closer : goal.returns-clause-closer
returns-clause-closer c = covers_closer

pub returns-clause-listed : goal.returns-clause-listed
returns-clause-listed c = lists_all_owned

pub returns-clause-agree : goal.returns-clause-agree
returns-clause-agree c = denials_agree

pub returns-clause-encloser : goal.returns-clause-encloser
returns-clause-encloser c = enclosers_agree

pub returns-clause-asked_wildcard : goal.returns-clause-asked_wildcard
returns-clause-asked_wildcard c = proved_wildcard_is_asked

pub returns-clause-absent_wildcard : goal.returns-clause-absent_wildcard
returns-clause-absent_wildcard c = absent_wildcard_is_denied
