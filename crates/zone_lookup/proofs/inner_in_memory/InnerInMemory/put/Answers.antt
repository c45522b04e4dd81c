use Rattle.zone_map.specs.Zones.{put}
use Rattle.zone_map.proofs.Stored.{IsZone-put}
use Rattle.zone_map.proofs.Upserting.{IsZone-after}
use Rattle.zone_lookup.proofs.inner_in_memory.InnerInMemory.put.Goals as goal

pub invariant_of-self : goal.invariant_of-self
invariant_of-self g c =
    IsZone-after (λ m. m) c.self.inside.records c.put.new.self (put c.self.inside.records c.args.key.name c.args.key.record_type.0 c.args.set) c.put.result c.self.invariant
    (IsZone-put c.self.inside.records c.args.key c.args.set c.self.invariant c.requires) c.put.ensures.stored c.put.ensures.same
