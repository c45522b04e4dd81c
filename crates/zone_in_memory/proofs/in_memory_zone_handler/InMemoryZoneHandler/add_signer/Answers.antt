use Rattle.zone_in_memory.proofs.in_memory_zone_handler.InMemoryZoneHandler.add_signer.Goals as goal

pub invariant_of-self : goal.invariant_of-self
invariant_of-self g c =
    record { origin = c.self.invariant.origin; soa = c.self.invariant.soa; internet = c.self.invariant.internet; sets = c.add_signer.ensures.zone }
