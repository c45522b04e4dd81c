use Rattle.std.proofs.Common.{arith}
use Rattle.zone_proto.proofs.Names.NameParts.{IsName-in_range}
use Rattle.zone_proto.proofs.lower_name.LowerName.into_key.Goals as goal

pub returns-clause-range : goal.returns-clause-range
returns-clause-range c = record {
  octets = (IsName-in_range c.self.inside.name c.self.invariant.name).octets;
  types = (omega arith, tt);
}
