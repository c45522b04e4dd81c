use Rattle.std.proofs.Common.{rules}
use Rattle.zone_map.specs.Zones.{put, IsStoredAt}
use Rattle.zone_map.proofs.Stored.{IsZone-put}
use Rattle.zone_map.proofs.Upserting.{IsZone-after}
use Rattle.zone_in_memory.proofs.in_memory_zone_handler.InMemoryZoneHandler.put_set.Goals as goal

pub invariant_of-self : goal.invariant_of-self
invariant_of-self g c =
    let there : IsStoredAt c.new-key.result.name c.new-key.result.record_type.0 c.args.set = search rules in
    let zone = IsZone-put c.self.inside.inner.records c.new-key.result c.args.set c.self.invariant.sets there in
    record {
      origin = c.self.invariant.origin;
      soa = c.self.invariant.soa;
      internet = c.self.invariant.internet;
      sets = IsZone-after (λ i. i.records) c.self.inside.inner c.put.new.self
          (record c.self.inside.inner { records = put c.self.inside.inner.records c.new-key.result.name c.new-key.result.record_type.0 c.args.set })
          c.put.result c.self.invariant.sets zone c.put.ensures.stored c.put.ensures.same;
    }
