use Rattle.signed_in_place.proofs.ChainStays.{own_chain_stays}
use Rattle.signed_in_place.proofs.laws.own_chain_stays.Goals as goal

pub returns : goal.returns
returns c = own_chain_stays
