use Rattle.ready_referrals.proofs.ReferredNames.{names_below_a_cut_are_referred_alike}
use Rattle.ready_referrals.proofs.Unauthoritative.{unauthoritative_responses_are_referrals}
use Rattle.ready_referrals.proofs.laws.names_below_a_cut_are_referred_alike.Goals as goal

pub returns-clause-alike : goal.returns-clause-alike
returns-clause-alike c = names_below_a_cut_are_referred_alike

pub returns-clause-referrals : goal.returns-clause-referrals
returns-clause-referrals c = unauthoritative_responses_are_referrals
