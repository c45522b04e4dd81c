use Rattle.denial_laws.proofs.CircleLaws.{no_data_accepted, empty_accepted, wildcard_no_data_accepted}
use Rattle.denial_laws.proofs.laws.absent_data_are_accepted.Goals as goal

pub returns-clause-own : goal.returns-clause-own
returns-clause-own c = no_data_accepted

pub returns-clause-empty : goal.returns-clause-empty
returns-clause-empty c = empty_accepted

pub returns-clause-wildcard : goal.returns-clause-wildcard
returns-clause-wildcard c = wildcard_no_data_accepted
