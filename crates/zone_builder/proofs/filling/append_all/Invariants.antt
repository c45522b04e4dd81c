use Rattle.std.proofs.Common.{◌≡◌}
use Rattle.std.specs.Prelude.{map, fold}
use Rattle.std.specs.List.{AllByRecursion}
use Rattle.std.specs.Vec.Iter.{into_iter_items}
use Rattle.zone_proto.specs.Data.{type_of}
use Rattle.zone_proto.specs.Names.{lower}
use Rattle.zone_builder.specs.declared.given.GivenRecord.{GivenRecord}
use Rattle.zone_builder.specs.Records.{records_of}
use Rattle.zone_builder.specs.Repeats.{appending, AreNew}
use Rattle.zone_builder.specs.Sets.{with_ttl}
use Rattle.zone_builder.proofs.filling.append_all.Given as goal

-- with the records that are left the set becomes what it is with all; these are of its owner and type, and their data are new
abbrev pub invariant-loop-given : goal.invariant-loop-given
invariant-loop-given l = record {
  owner : lower l.set.owner ≡ l.key.name;
  kind : l.set.record_type ≡ l.key.record_type.0;
  owners : AllByRecursion (λ (g : GivenRecord). lower g.record.name ≡ l.key.name) (into_iter_items l.given-iterator);
  types : AllByRecursion (λ (g : GivenRecord). type_of g.record.rdata ≡ l.key.record_type.0) (into_iter_items l.given-iterator);
  new : AreNew l.ttl l.set.records (into_iter_items l.given-iterator);
  same :
      fold (appending l.serial) l.set (map (with_ttl l.ttl) (records_of (into_iter_items l.given-iterator)))
      ≡ fold (appending l.serial) l.fn.set (map (with_ttl l.ttl) (records_of l.fn.records.items));
}
