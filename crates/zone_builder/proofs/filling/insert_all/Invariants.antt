use Rattle.std.proofs.Common.{◌≡◌}
use Rattle.std.specs.Prelude.{map, fold}
use Rattle.std.specs.List.{AllByRecursion}
use Rattle.std.specs.Vec.Iter.{into_iter_items}
use Rattle.zone_proto.specs.Data.{type_of}
use Rattle.zone_proto.specs.Names.{lower}
use Rattle.zone_builder.specs.declared.given.GivenRecord.{GivenRecord}
use Rattle.zone_denial.specs.Nsec3Sets.{with_taken}
use Rattle.zone_builder.specs.Records.{records_of}
use Rattle.zone_builder.specs.Sets.{with_ttl}
use Rattle.zone_builder.proofs.filling.insert_all.Given as goal

-- with the records that are left the set becomes what it is with all; these are of its owner and type
abbrev pub invariant-loop-given : goal.invariant-loop-given
invariant-loop-given l = record {
  owner : lower l.set.owner ≡ l.key.name;
  kind : l.set.record_type ≡ l.key.record_type.0;
  owners : AllByRecursion (λ (g : GivenRecord). lower g.record.name ≡ l.key.name) (into_iter_items l.given-iterator);
  types : AllByRecursion (λ (g : GivenRecord). type_of g.record.rdata ≡ l.key.record_type.0) (into_iter_items l.given-iterator);
  same :
      fold (with_taken l.serial) l.set (map (with_ttl l.ttl) (records_of (into_iter_items l.given-iterator)))
      ≡ fold (with_taken l.serial) l.fn.set (map (with_ttl l.ttl) (records_of l.fn.records.items));
}
