use Rattle.zone_map.proofs.Owned.{found_stored}
use Rattle.zone_map.proofs.record_map.RecordMap.get.Goals as goal

pub returns-clause-stored : goal.returns-clause-stored
returns-clause-stored c = found_stored c.self.inside.sets _ _ _ c.get.ensures.value c.self.invariant.zone
