use Rattle.denial_laws.proofs.Chains.Accepted.{denial_accepted}
use Rattle.denial_laws.proofs.Chains.EmptyAnswers.{empty_accepted}
use Rattle.denial_laws.proofs.Chains.NameErrors.{wildcard_error_accepted}
use Rattle.denial_laws.proofs.Chains.Silence.{nothing_below_cut}
use Rattle.denial_laws.proofs.Chains.Soundness.{records_sound, unsigned_delegation_sound}
use Rattle.denial_laws.proofs.laws.nsec_chains_are_accepted.Goals as goal

pub returns-clause-accepted : goal.returns-clause-accepted
returns-clause-accepted c = denial_accepted

pub returns-clause-asterisk : goal.returns-clause-asterisk
returns-clause-asterisk c = wildcard_error_accepted

pub returns-clause-empty : goal.returns-clause-empty
returns-clause-empty c = empty_accepted

pub returns-clause-sound : goal.returns-clause-sound
returns-clause-sound c = records_sound

pub returns-clause-delegation : goal.returns-clause-delegation
returns-clause-delegation c = unsigned_delegation_sound

pub returns-clause-below_cut : goal.returns-clause-below_cut
returns-clause-below_cut c = nothing_below_cut
