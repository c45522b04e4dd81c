use Rattle.std.proofs.Common.{◌≡◌, ◌+◌}
use Rattle.zone_proto.specs.Names.{wire_length}
use Rattle.zone_proto.proofs.wire.wire_length.Given as goal

abbrev pub invariant-loop-label : goal.invariant-loop-label
invariant-loop-label l = l.octets + wire_length l.label-iterator ≡ wire_length l.fn.labels
