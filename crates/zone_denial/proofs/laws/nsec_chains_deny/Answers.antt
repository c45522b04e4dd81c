use Rattle.zone_denial.proofs.Chains.NsecAskedWildcard.{enclosers_agree, proved_wildcard_is_asked, absent_wildcard_is_denied}
use Rattle.zone_denial.proofs.Chains.NsecBelow.{no_next_below, next_below_empty}
use Rattle.zone_denial.proofs.Chains.NsecClosest.{finds_or_covers}
use Rattle.zone_denial.proofs.Chains.NsecLists.{lists_all_owned, denials_agree}
use Rattle.zone_denial.proofs.Chains.NsecWildcard.{proves_wildcard}
use Rattle.zone_denial.proofs.laws.nsec_chains_deny.Goals as goal

pub returns-clause-found_or_covered : goal.returns-clause-found_or_covered
returns-clause-found_or_covered c = finds_or_covers

pub returns-clause-wildcard : goal.returns-clause-wildcard
returns-clause-wildcard c = proves_wildcard

pub returns-clause-listed : goal.returns-clause-listed
returns-clause-listed c = lists_all_owned

pub returns-clause-agree : goal.returns-clause-agree
returns-clause-agree c = denials_agree

pub returns-clause-absent : goal.returns-clause-absent
returns-clause-absent c = no_next_below

pub returns-clause-empty : goal.returns-clause-empty
returns-clause-empty c = next_below_empty

pub returns-clause-encloser : goal.returns-clause-encloser
returns-clause-encloser c = enclosers_agree

pub returns-clause-asked_wildcard : goal.returns-clause-asked_wildcard
returns-clause-asked_wildcard c = proved_wildcard_is_asked

pub returns-clause-absent_wildcard : goal.returns-clause-absent_wildcard
returns-clause-absent_wildcard c = absent_wildcard_is_denied
