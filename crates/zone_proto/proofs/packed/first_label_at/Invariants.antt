use Rattle.std.proofs.Common.{◌≤◌, ◌-◌, length}
use Rattle.zone_proto.specs.Packing.{name_of}
use Rattle.zone_proto.proofs.Names.FirstLabels.{before_first}
use Rattle.zone_proto.proofs.packed.first_label_at.Given as goal

abbrev pub invariant-loop-start : goal.invariant-loop-start
invariant-loop-start l = record {
  within : l.start ≤ length l.octets - 1;
  at : before_first (name_of l.octets) ≤ l.start;
}

abbrev pub decreases-loop-start : goal.decreases-loop-start
decreases-loop-start l = l.start
