use Rattle.std.proofs.Common.{◌≡◌, ◌++◌, drop, length}
use Rattle.zone_proto.specs.Packing.{escaped}
use Rattle.zone_proto.proofs.escaped.+push_order.Given as goal

abbrev pub decreases-push_order : goal.decreases-push_order
decreases-push_order l = length l.labels

abbrev pub invariant-loop-octet : goal.invariant-loop-octet
invariant-loop-octet l =
    l.octets.items ++ escaped (drop l.octet-index l.label) ≡ l.initial.octets.items ++ escaped l.label
