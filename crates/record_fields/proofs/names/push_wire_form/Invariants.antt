use Rattle.std.proofs.Common.{◌≡◌, ◌++◌}
use Rattle.std.specs.List.{AllByRecursion}
use Rattle.zone_proto.specs.Names.{wire_form, IsLabel}
use Rattle.record_fields.proofs.names.push_wire_form.Given as goal

abbrev pub invariant-loop-label : goal.invariant-loop-label
invariant-loop-label l = record {
  written : l.out.items ++ wire_form l.label-iterator ≡ l.fn.out.items ++ wire_form l.fn.name;
  valid : AllByRecursion IsLabel l.label-iterator;
}
