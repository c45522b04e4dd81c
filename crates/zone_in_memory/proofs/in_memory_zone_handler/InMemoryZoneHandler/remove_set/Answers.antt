use Rattle.std.proofs.Common.{sym, ap, subst}
use Rattle.zone_map.specs.Zones.{IsZone}
use Rattle.zone_map.proofs.Stored.{IsZone-without}
use Rattle.zone_in_memory.proofs.in_memory_zone_handler.InMemoryZoneHandler.remove_set.Goals as goal

pub invariant_of-self : goal.invariant_of-self
invariant_of-self g c =
    record {
      origin = c.self.invariant.origin;
      soa = c.self.invariant.soa;
      internet = c.self.invariant.internet;
      sets = subst IsZone (sym (ap (λ i. i.records) c.remove.ensures.removed)) (IsZone-without c.self.inside.inner.records c.args.key.now c.self.invariant.sets);
    }
