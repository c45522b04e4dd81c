use Rattle.std.proofs.Common.{◌≡◌, ap, refl, sym, ◌∙◌, subst}
use Rattle.std.specs.Prelude.{Some, is_some}
use Rattle.zone_proto.specs.Data.{type_of}
use Rattle.zone_proto.specs.Names.{lower}
use Rattle.zone_proto.specs.Sets.{RRset, inserted, empty_set}
use Rattle.zone_proto.specs.declared.rr_key.RrKey.{RrKey}
use Rattle.zone_map.specs.Zones.{put, IsStoredAt}
use Rattle.zone_map.proofs.Upserting.{inserted_stored, same_from_lower, IsSet-empty, new_answer, new_after, taken_set}
use Rattle.zone_map.proofs.record_map.RecordMap.insert_new.Goals as goal

pub insert-requires-clause-owner : goal.insert-requires-clause-owner
insert-requires-clause-owner c =
    let owner : c.new-set.result.owner ≡ c.args.record.name = ap (λ (s : RRset). s.owner) c.new-set.ensures ∙ c.in_ok-clone.ensures.ok in
    same_from_lower c.args.record.name c.new-set.result.owner (ap lower (sym owner))

pub put-requires : goal.put-requires
put-requires c =
    let made : c.new-set.result ≡ empty_set c.args.record.name (type_of c.args.record.rdata) c.args.serial =
    c.new-set.ensures ∙ (λ i. empty_set (c.in_ok-clone.ensures.ok i) (c.requires.own_key i).record_type.0 c.args.serial) in
    let taken : inserted (empty_set c.args.record.name (type_of c.args.record.rdata) c.args.serial) c.args.record c.args.serial ≡ Some c.insert.new.self =
    ap (λ (s : RRset). inserted s c.args.record c.args.serial) (sym made)
    ∙ taken_set (inserted c.new-set.result c.args.record c.args.serial) c.new-set.result c.insert.new.self c.in_ok-insert.field-0 c.in_ok-insert.ensures.answer c.if-not-branch.false c.in_ok-insert.ensures.after in
    subst (λ (k : RrKey). IsStoredAt k.name k.record_type.0 c.insert.new.self) (sym c.requires.own_key)
    (inserted_stored (empty_set c.args.record.name (type_of c.args.record.rdata) c.args.serial) c.args.record c.args.serial c.insert.new.self c.requires.named refl refl (IsSet-empty c.args.record.name (type_of c.args.record.rdata)) taken)

pub returns-in-Ok : goal.returns-in-Ok
returns-in-Ok c =
    let made : c.new-set.result ≡ empty_set c.args.record.name (type_of c.args.record.rdata) c.args.serial =
    c.new-set.ensures ∙ (λ i. empty_set (c.in_ok-clone.ensures.ok i) (c.requires.own_key i).record_type.0 c.args.serial) in
    let taken : inserted (empty_set c.args.record.name (type_of c.args.record.rdata) c.args.serial) c.args.record c.args.serial ≡ Some c.insert.new.self =
    ap (λ (s : RRset). inserted s c.args.record c.args.serial) (sym made)
    ∙ taken_set (inserted c.new-set.result c.args.record c.args.serial) c.new-set.result c.insert.new.self c.in_ok-insert.field-0 c.in_ok-insert.ensures.answer c.if-not-branch.false c.in_ok-insert.ensures.after in
    let written : c.put.new.self ≡ put c.args.self.now (lower c.args.record.name) (type_of c.args.record.rdata) c.insert.new.self =
    c.in-Ok.ensures.stored ∙ ap (λ (k : RrKey). put c.args.self.now k.name k.record_type.0 c.insert.new.self) c.requires.own_key in
    record {
      answer = ap is_some (sym taken) ∙ new_answer c.args.self.now c.args.record c.args.serial c.requires.absent;
      after = written ∙ new_after c.args.self.now c.args.record c.args.serial c.requires.absent c.insert.new.self taken;
      err = tt;
      same = tt;
    }
