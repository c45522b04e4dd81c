use Rattle.denial_laws.proofs.Chains.Nsec3Accepted.{nsec3_denial_accepted, nsec3_wildcard_answer_accepted}
use Rattle.denial_laws.proofs.Chains.Nsec3Calls.{nsec3_parameters_found}
use Rattle.denial_laws.proofs.Chains.Nsec3EmptyAnswers.{nsec3_wildcard_error_accepted}
use Rattle.denial_laws.proofs.Chains.Nsec3LeftOut.{nsec3_opt_out_sound}
use Rattle.denial_laws.proofs.Chains.Nsec3Silence.{nsec3_nothing_below_cut, nsec3_own_nothing_below_cut, nsec3_answers_below_cut}
use Rattle.denial_laws.proofs.Chains.Nsec3Soundness.{nsec3_records_sound, nsec3_unsigned_delegation_sound}
use Rattle.denial_laws.proofs.laws.nsec3_chains_are_accepted.Goals as goal

pub returns-clause-accepted : goal.returns-clause-accepted
returns-clause-accepted c = nsec3_denial_accepted

pub returns-clause-wildcard : goal.returns-clause-wildcard
returns-clause-wildcard c = nsec3_wildcard_answer_accepted

pub returns-clause-asterisk : goal.returns-clause-asterisk
returns-clause-asterisk c = nsec3_wildcard_error_accepted

pub returns-clause-sound : goal.returns-clause-sound
returns-clause-sound c = nsec3_records_sound

pub returns-clause-delegation : goal.returns-clause-delegation
returns-clause-delegation c = nsec3_unsigned_delegation_sound

pub returns-clause-opt_out : goal.returns-clause-opt_out
returns-clause-opt_out c = nsec3_opt_out_sound

pub returns-clause-below_cut : goal.returns-clause-below_cut
returns-clause-below_cut c = nsec3_nothing_below_cut

pub returns-clause-own : goal.returns-clause-own
returns-clause-own c = nsec3_own_nothing_below_cut

pub returns-clause-answers : goal.returns-clause-answers
returns-clause-answers c = nsec3_answers_below_cut

pub returns-clause-parameters : goal.returns-clause-parameters
returns-clause-parameters c = nsec3_parameters_found
