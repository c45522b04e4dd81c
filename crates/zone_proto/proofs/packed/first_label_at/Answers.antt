use Rattle.std.proofs.Common.{arith}
use Rattle.zone_proto.specs.Packing.{name_of}
use Rattle.zone_proto.proofs.Names.FirstLabels.{step_back}
use Rattle.zone_proto.proofs.packed.first_label_at.Goals as goal

pub loop-start-preserved : goal.loop-start-preserved
loop-start-preserved c = record {
  within = omega (arith, c.loop-start.invariant.within);
  at = step_back c.args.octets.now (name_of c.args.octets.now) c.loop-start.start 0 c.requires.octets c.loop-start.invariant.at c.loop-start-test.true c.if-octets-start-ne0.true;
}
