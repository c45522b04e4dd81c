use Rattle.std.proofs.Common.{◌≡◌, ◌++◌}
use Rattle.std.specs.List.{AllByRecursion}
use Rattle.zone_proto.specs.Names.{IsLabel}
use Rattle.zone_proto.specs.Counting.{counting}
use Rattle.zone_proto.proofs.counted.push_labels.Given as goal

abbrev pub invariant-loop-label : goal.invariant-loop-label
invariant-loop-label l = record {
  written : l.octets.items ++ counting l.label-iterator ≡ l.fn.octets.items ++ counting l.fn.labels;
  valid : AllByRecursion IsLabel l.label-iterator;
}
