use Rattle.std.proofs.Common.{◌≡◌, ◌+◌, ◌≤◌, length, drop}
use Rattle.zone_proto.specs.Packing.{escaped}
use Rattle.zone_proto.proofs.escaped.escaped_length.Given as goal

abbrev pub invariant-loop-octet : goal.invariant-loop-octet
invariant-loop-octet l = record {
  small : l.count ≤ l.octet-index + l.octet-index;
  counted : l.count + length (escaped (drop l.octet-index l.label)) ≡ length (escaped l.label);
}
