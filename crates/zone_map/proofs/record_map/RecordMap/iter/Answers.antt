use Rattle.std.proofs.Common.{subst}
use Rattle.zone_map.specs.Zones.{AreStored}
use Rattle.zone_map.proofs.Entries.{AreStored-zone}
use Rattle.zone_map.proofs.record_map.RecordMap.iter.Goals as goal

pub returns-clause-stored : goal.returns-clause-stored
returns-clause-stored c = subst AreStored c.self.view_is (AreStored-zone c.self.inside.sets c.self.invariant.zone)
