use Rattle.std.proofs.Common.{◌≡◌, ◌-◌, ◌++◌}
use Rattle.std.specs.List.{AllByRecursion}
use Rattle.zone_proto.specs.Names.{IsLabel}
use Rattle.message_writing.specs.KnownNames.{labels_text}
use Rattle.message_writing.proofs.name_writer.push_labels.Given as goal

abbrev pub invariant-loop : goal.invariant-loop
invariant-loop l = record {
  written : l.out.items ++ labels_text (l.count - l.counter) l.left ≡ l.fn.out.items ++ labels_text l.count l.fn.name;
  valid : AllByRecursion IsLabel l.left;
}
