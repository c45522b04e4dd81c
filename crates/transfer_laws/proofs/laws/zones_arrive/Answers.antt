use Rattle.transfer_laws.proofs.Arriving.{zones_arrive}
use Rattle.transfer_laws.proofs.laws.zones_arrive.Goals as goal

pub returns : goal.returns
returns c = zones_arrive c.messages_are_taken.ensures c.zones_are_taken.ensures.taken c.zones_are_taken.ensures.made
