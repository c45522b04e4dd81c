use Rattle.std.proofs.Common.{◌≡◌, ◌+◌, ◌-◌, ◌≤◌, length, drop}
use Rattle.zone_proto.specs.Packing.{shared_ends}
use Rattle.zone_proto.proofs.octet_order.count_shared_ends.Given as goal

abbrev pub invariant-loop-i : goal.invariant-loop-i
invariant-loop-i l = record {
  in_a : l.i ≤ length l.a;
  small : l.count ≤ l.i;
  counted : l.count + shared_ends (drop l.i l.a) (drop l.i l.b) ≡ shared_ends l.a l.b;
}

abbrev pub decreases-loop-i : goal.decreases-loop-i
decreases-loop-i l = length l.a - l.i
