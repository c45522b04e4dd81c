use Rattle.std.proofs.Common.{take}
use Rattle.zone_proto.specs.Packing.{IsPackable}
use Rattle.zone_proto.specs.Vectors.{octets_of}
use Rattle.zone_proto.proofs.form.is_packable.Given as goal

abbrev pub invariant-loop-label : goal.invariant-loop-label
invariant-loop-label l = IsPackable (octets_of (take l.label-index l.labels))
