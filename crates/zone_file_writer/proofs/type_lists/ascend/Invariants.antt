use Rattle.std.proofs.Common.{◌≡◌, ◌≤◌, drop}
use Rattle.zone_file_writer.specs.TypeLists.{ascend_from}
use Rattle.zone_file_writer.proofs.type_lists.ascend.Given as goal

abbrev pub invariant-loop-record_type : goal.invariant-loop-record_type
invariant-loop-record_type l = record {
  same : ascend_from l.least (drop l.record_type-index l.types) ≡ ascend_from 0 l.types;
  small : l.least ≤ 65536;
}
