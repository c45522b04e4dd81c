use Rattle.std.proofs.Common.{◌≡◌}
use Rattle.zone_proto.proofs.name_order.labels_are_same.Given as goal

abbrev pub invariant-loop-label : goal.invariant-loop-label
invariant-loop-label l = record {
  left : l.fn.a ≡ l.fn.b → l.label-iterator ≡ l.others;
  all : l.label-iterator ≡ l.others → l.fn.a ≡ l.fn.b;
}
