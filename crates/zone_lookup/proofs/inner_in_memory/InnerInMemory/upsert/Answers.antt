use Rattle.zone_lookup.proofs.inner_in_memory.InnerInMemory.upsert.Goals as goal

pub invariant_of-self : goal.invariant_of-self
invariant_of-self g c = c.upsert.ensures.zone c.self.invariant
