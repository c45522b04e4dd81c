use Rattle.std.proofs.Common.{◌≡◌, ◌++◌}
use Rattle.std.specs.Prelude.{filter}
use Rattle.std.specs.Vec.Iter.{into_iter_items}
use Rattle.zone_proto.specs.declared.rr_key.RrKey.{RrKey}
use Rattle.zone_builder.specs.Groups.{all_records_in, all_signatures_in, AreNamed}
use Rattle.zone_builder.specs.Records.{is_data_of, is_signature_of}
use Rattle.zone_builder.specs.Warnings.{outside_warnings}
use Rattle.zone_builder.proofs.grouping.in_turn.Given as goal

-- under each key stand its records of those that were passed, and those that are outside are warned of
abbrev pub invariant-loop-given : goal.invariant-loop-given
invariant-loop-given l = record {
  named : AreNamed l.groups.items;
  records : (k : RrKey) → all_records_in l.groups.items k ++ filter (is_data_of l.origin k) (into_iter_items l.given-iterator) ≡ filter (is_data_of l.origin k) l.fn.records.items;
  signatures : (k : RrKey) → all_signatures_in l.groups.items k ++ filter (is_signature_of l.origin k) (into_iter_items l.given-iterator) ≡ filter (is_signature_of l.origin k) l.fn.records.items;
  warned : l.warnings.items ++ outside_warnings l.origin (into_iter_items l.given-iterator) ≡ l.fn.warnings.items ++ outside_warnings l.origin l.fn.records.items;
}
