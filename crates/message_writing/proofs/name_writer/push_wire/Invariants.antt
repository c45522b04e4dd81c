use Rattle.std.proofs.Common.{◌≡◌, ◌++◌}
use Rattle.std.specs.List.{AllByRecursion}
use Rattle.zone_proto.specs.Names.{IsLabel, wire_form}
use Rattle.message_writing.proofs.name_writer.push_wire.Given as goal

abbrev pub invariant-loop-label : goal.invariant-loop-label
invariant-loop-label l = record {
  written : l.out.items ++ wire_form l.label-iterator ≡ l.fn.out.items ++ wire_form l.fn.name;
  valid : AllByRecursion IsLabel l.label-iterator;
}
