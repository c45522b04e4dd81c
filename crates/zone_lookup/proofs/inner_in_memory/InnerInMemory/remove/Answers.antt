use Rattle.std.proofs.Common.{sym, subst}
use Rattle.zone_map.specs.Zones.{IsZone}
use Rattle.zone_map.proofs.Stored.{IsZone-without}
use Rattle.zone_lookup.proofs.inner_in_memory.InnerInMemory.remove.Goals as goal

pub invariant_of-self : goal.invariant_of-self
invariant_of-self g c = subst IsZone (sym c.remove.ensures.removed) (IsZone-without c.self.inside.records c.args.key.now c.self.invariant)
