use Rattle.signed_in_place.proofs.SignedChains.{own_chain_is_signed, begun_chain_stays, finished_chain_stays}
use Rattle.signed_in_place.proofs.laws.signed_chains_stay.Goals as goal

pub returns-clause-own : goal.returns-clause-own
returns-clause-own c = own_chain_is_signed

pub returns-clause-begun : goal.returns-clause-begun
returns-clause-begun c = begun_chain_stays

pub returns-clause-finished : goal.returns-clause-finished
returns-clause-finished c = finished_chain_stays
