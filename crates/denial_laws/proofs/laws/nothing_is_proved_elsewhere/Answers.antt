use Rattle.denial_laws.proofs.CircleLaws.{nothing_below_cut}
use Rattle.denial_laws.proofs.Silence.{nothing_outside}
use Rattle.denial_laws.proofs.laws.nothing_is_proved_elsewhere.Goals as goal

pub returns-clause-below_cut : goal.returns-clause-below_cut
returns-clause-below_cut c = nothing_below_cut

pub returns-clause-outside : goal.returns-clause-outside
returns-clause-outside c = nothing_outside
