use Rattle.std.proofs.Common.{◌≡◌, ◌≤◌, length, drop}
use Rattle.zone_proto.specs.Octets.{written}
use Rattle.zone_proto.specs.Packing.{packing}
use Rattle.zone_proto.specs.Vectors.{octets_of}
use Rattle.zone_proto.proofs.packed.pack.Given as goal

abbrev pub invariant-loop-i : goal.invariant-loop-i
invariant-loop-i l = record {
  within : l.i ≤ length l.labels;
  packed : written l.octets ≡ packing (octets_of (drop l.i l.labels));
}

abbrev pub decreases-loop-i : goal.decreases-loop-i
decreases-loop-i l = l.i
