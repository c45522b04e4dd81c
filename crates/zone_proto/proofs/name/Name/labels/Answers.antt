use Rattle.zone_proto.proofs.Names.NameParts.{IsName-in_range}
use Rattle.zone_proto.proofs.name.Name.labels.Goals as goal

pub returns-clause-range : goal.returns-clause-range
returns-clause-range c = rw (← c.self.view_is) (IsName-in_range _ c.self.invariant)
