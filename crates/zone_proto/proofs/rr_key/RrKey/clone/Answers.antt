use Rattle.std.proofs.Common.{arith}
use Rattle.zone_proto.proofs.Names.NameParts.{IsName-in_range}
use Rattle.zone_proto.proofs.rr_key.RrKey.clone.Goals as goal

pub returns-in_err-clone-clause-range : goal.returns-in_err-clone-clause-range
returns-in_err-clone-clause-range c = record {
  octets = (IsName-in_range c.args.self.now.name c.in_err-clone.ensures.valid.name).octets;
  types = (omega arith, tt);
}

pub returns-clause-range : goal.returns-clause-range
returns-clause-range c = record {
  octets = (IsName-in_range c.args.self.now.name c.in_ok-clone.ensures.valid.name).octets;
  types = (omega arith, tt);
}
