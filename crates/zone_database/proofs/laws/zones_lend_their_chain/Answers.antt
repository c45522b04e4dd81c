use Rattle.zone_database.proofs.OwnDenials.{zones_lend_their_chain}
use Rattle.zone_database.proofs.laws.zones_lend_their_chain.Goals as goal

pub returns : goal.returns
returns c = zones_lend_their_chain
