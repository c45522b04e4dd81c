use Rattle.std.proofs.Common.{◌≡◌, true, Bor, ap, sym, ◌∙◌, subst}
use Rattle.std.specs.Prelude.{Option, Some, IfSome, option_copied, unwrap_or}
use Rattle.std.specs.Map.{lookup}
use Rattle.zone_proto.specs.declared.record.Record.{Record}
use Rattle.zone_proto.specs.declared.rr_key.RrKey.{RrKey}
use Rattle.zone_proto.specs.Data.{type_of}
use Rattle.zone_proto.specs.Keys.{key, key_eq}
use Rattle.zone_proto.specs.Names.{lower, same_name}
use Rattle.zone_proto.specs.Results.{IsInsertion}
use Rattle.zone_proto.specs.Sets.{RRset}
use Rattle.zone_frozen.specs.Sets.{inserted_under, BelongsUnder}
use Rattle.zone_frozen.proofs.Inserted.{keys_inserted}
use Rattle.zone_map.specs.Upserts.{with_record}
use Rattle.zone_map.specs.Zones.{Sets, set_at, IsStoredAt}
use Rattle.zone_map.proofs.OwnerIndexes.{index_of_keys}
use Rattle.zone_map.proofs.Upserting.{same_from_lower, stored_made, IsZone-with_record, IsZone-or_same, IsZone-after}
use Rattle.zone_map.proofs.record_map.RecordMap.insert_into.Goals as goal

-- the set under the key
found : (m : Sets) (k : RrKey) (r : Record) (read : Option (Bor RRset)) (set : Bor RRset) → k ≡ key (lower r.name) (type_of r.rdata) → option_copied read ≡ lookup (key_eq k) m
    → read ≡ Some set → set_at m (lower r.name) (type_of r.rdata) ≡ Some set.now
found m k r read set own value is = ap (λ q. lookup (key_eq q) m) (sym own) ∙ sym value ∙ ap option_copied is

pub insert_record-requires : goal.insert_record-requires
insert_record-requires c =
    let stored : IsStoredAt (lower c.args.record.name) (type_of c.args.record.rdata) c.in-Some.field-0.now =
    c.self.invariant.zone.stored (lower c.args.record.name) (type_of c.args.record.rdata) c.in-Some.field-0.now (found c.self.inside.sets c.args.key c.args.record c.get.result c.in-Some.field-0 c.requires.own_key c.get.ensures.value c.in-Some.is) in
    subst (λ (k : RrKey). BelongsUnder c.args.record k c.self.inside.sets) (sym c.requires.own_key)
    (subst (λ (o : Option RRset). IfSome o (λ (set : RRset). (same_name c.args.record.name set.owner ≡ true) × (type_of c.args.record.rdata ≡ set.record_type))) (sym (found c.self.inside.sets c.args.key c.args.record c.get.result c.in-Some.field-0 c.requires.own_key c.get.ensures.value c.in-Some.is)) (same_from_lower c.args.record.name c.in-Some.field-0.now.owner (sym stored.owner), sym stored.record_type))

is_inserted : (c : goal.After-drop-key) → IsInsertion c.self.inside.sets (with_record c.self.inside.sets c.args.record c.args.serial) c.insert_record.result c.insert_record.new.self
is_inserted c =
    let m = c.self.inside.sets in
    subst (λ (o : Option Sets). IsInsertion m o c.insert_record.result c.insert_record.new.self)
    (ap (λ (k : RrKey). inserted_under c.args.record c.args.serial k m) c.requires.own_key
    ∙ stored_made m c.args.record c.args.serial c.in-Some.field-0.now (found c.self.inside.sets c.args.key c.args.record c.get.result c.in-Some.field-0 c.requires.own_key c.get.ensures.value c.in-Some.is) c.self.invariant.zone.ordered)
    c.insert_record.ensures

pub invariant_of-self : goal.invariant_of-self
invariant_of-self c =
    let m = c.self.inside.sets in
    record {
      zone =
          IsZone-after (λ m. m) m c.insert_record.new.self (unwrap_or (with_record m c.args.record c.args.serial) m) c.insert_record.result c.self.invariant.zone
          (IsZone-or_same m (with_record m c.args.record c.args.serial) c.self.invariant.zone
          (λ n e. IsZone-with_record m c.args.record c.args.serial n c.self.invariant.zone c.requires.named e))
          (is_inserted c).after (is_inserted c).same;
      index = index_of_keys m c.insert_record.new.self c.self.inside.index (keys_inserted c.args.key m c.args.record c.args.serial c.insert_record.result c.insert_record.new.self c.insert_record.ensures) c.self.invariant.index;
    }

pub returns-in-Some : goal.returns-in-Some
returns-in-Some c =
    subst (λ (m : Sets). IsInsertion m (with_record m c.args.record c.args.serial) c.insert_record.result c.insert_record.new.self) c.self.view_is (is_inserted c)
