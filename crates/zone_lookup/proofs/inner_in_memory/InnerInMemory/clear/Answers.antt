use Rattle.std.proofs.Common.{sym, subst}
use Rattle.zone_map.specs.Zones.{IsZone}
use Rattle.zone_map.proofs.Stored.{IsZone-none}
use Rattle.zone_lookup.proofs.inner_in_memory.InnerInMemory.clear.Goals as goal

pub invariant_of-self : goal.invariant_of-self
invariant_of-self g c = subst IsZone (sym c.clear.ensures) IsZone-none
