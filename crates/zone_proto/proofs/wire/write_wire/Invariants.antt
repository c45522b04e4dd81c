use Rattle.std.proofs.Common.{◌≡◌, ◌++◌}
use Rattle.std.specs.List.{AllByRecursion}
use Rattle.zone_proto.specs.Names.{lower, wire_form, IsLabel}
use Rattle.zone_proto.proofs.wire.write_wire.Given as goal

abbrev pub invariant-loop-label : goal.invariant-loop-label
invariant-loop-label l = record {
  written : l.bytes.items ++ wire_form (lower l.label-iterator) ≡ wire_form (lower l.fn.labels);
  valid : AllByRecursion IsLabel l.label-iterator;
}
