use Rattle.std.proofs.Common.{ap, sym}
use Rattle.zone_proto.specs.Stepping.{stepped_data}
use Rattle.zone_proto.proofs.stepping.step.Goals as goal

pub returns-in-SOA-clause-data : goal.returns-in-SOA-clause-data
returns-in-SOA-clause-data c = ap stepped_data (sym c.in-SOA.is)
