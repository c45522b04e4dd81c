use Rattle.denial_laws.proofs.Nsec3CircleLaws.{nsec3_nothing_below_cut, nsec3_own_nothing_below_cut, nsec3_answers_below_cut}
use Rattle.denial_laws.proofs.Nsec3Silence.{nsec3_nothing_outside}
use Rattle.denial_laws.proofs.laws.nsec3_nothing_is_proved_elsewhere.Goals as goal

pub returns-clause-below_cut : goal.returns-clause-below_cut
returns-clause-below_cut c = nsec3_nothing_below_cut

pub returns-clause-own : goal.returns-clause-own
returns-clause-own c = nsec3_own_nothing_below_cut

pub returns-clause-answers : goal.returns-clause-answers
returns-clause-answers c = nsec3_answers_below_cut

pub returns-clause-outside : goal.returns-clause-outside
returns-clause-outside c = nsec3_nothing_outside
