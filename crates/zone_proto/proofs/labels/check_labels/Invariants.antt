use Rattle.std.proofs.Common.{◌≡◌, ◌≤◌, ◌+◌, min, take, drop}
use Rattle.std.specs.List.{AllByRecursion}
use Rattle.zone_proto.specs.Names.{wire_length, IsLabel}
use Rattle.zone_proto.specs.Vectors.{octets_of}
use Rattle.zone_proto.specs.Faults.{label_fault}
use Rattle.zone_proto.proofs.labels.check_labels.Given as goal

abbrev pub invariant-loop-label : goal.invariant-loop-label
invariant-loop-label l = record {
  small : l.wire ≤ 256;
  faults : label_fault (octets_of (drop l.label-index l.labels)) ≡ label_fault (octets_of l.labels);
  wire : min 256 (l.wire + wire_length (octets_of (drop l.label-index l.labels))) ≡ min 256 (wire_length (octets_of l.labels));
  valid : AllByRecursion IsLabel (octets_of (take l.label-index l.labels));
}
