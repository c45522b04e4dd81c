use Rattle.denial_laws.proofs.CircleLaws.{name_error_accepted, wildcard_error_accepted}
use Rattle.denial_laws.proofs.laws.name_errors_are_accepted.Goals as goal

pub returns-clause-plain : goal.returns-clause-plain
returns-clause-plain c = name_error_accepted

pub returns-clause-asterisk : goal.returns-clause-asterisk
returns-clause-asterisk c = wildcard_error_accepted
