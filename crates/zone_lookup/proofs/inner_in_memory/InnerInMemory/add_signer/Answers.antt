use Rattle.zone_lookup.proofs.inner_in_memory.InnerInMemory.add_signer.Goals as goal

pub invariant_of-self-in-Ok : goal.invariant_of-self-in-Ok
invariant_of-self-in-Ok g c = c.upsert.ensures.zone c.self.invariant
