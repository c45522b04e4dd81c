use Rattle.zone_lookup.proofs.SecuredRecords.{IsZone-after}
use Rattle.zone_lookup.proofs.inner_in_memory.InnerInMemory.secure.Goals as goal

pub invariant_of-self : goal.invariant_of-self
invariant_of-self g c = IsZone-after c.secure_denied.result c.self.inside.records c.secure_denied.new.records c.self.invariant c.secure_denied.ensures.zone c.secure_denied.ensures.same

pub returns-clause-zone : goal.returns-clause-zone
returns-clause-zone g c = IsZone-after c.secure_denied.result c.self.inside.records c.secure_denied.new.records c.self.invariant c.secure_denied.ensures.zone c.secure_denied.ensures.same
