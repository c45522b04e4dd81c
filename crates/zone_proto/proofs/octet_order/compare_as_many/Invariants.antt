use Rattle.std.proofs.Common.{◌≡◌, ◌-◌, ◌≤◌, length, take}
use Rattle.zone_proto.proofs.octet_order.compare_as_many.Given as goal

abbrev pub invariant-loop-eight : goal.invariant-loop-eight
invariant-loop-eight l = record {
  within : l.same ≤ length l.a;
  fronts : take l.same l.a ≡ take l.same l.b;
}

abbrev pub decreases-loop-eight : goal.decreases-loop-eight
decreases-loop-eight l = length l.a - l.same
