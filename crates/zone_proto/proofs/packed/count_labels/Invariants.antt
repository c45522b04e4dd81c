use Rattle.std.proofs.Common.{◌≡◌, ◌≤◌, ◌+◌, drop}
use Rattle.zone_proto.proofs.Names.Packings.{ends}
use Rattle.zone_proto.proofs.packed.count_labels.Given as goal

abbrev pub invariant-loop-octet : goal.invariant-loop-octet
invariant-loop-octet l = record {
  small : l.count ≤ l.octet-index;
  counted : l.count + ends (drop l.octet-index l.octets) ≡ ends l.octets;
}
