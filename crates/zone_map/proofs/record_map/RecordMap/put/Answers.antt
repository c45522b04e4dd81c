use Rattle.std.proofs.Common.{◌∙◌, ap, sym, subst}
use Rattle.std.specs.BTreeMap.{insert_entry}
use Rattle.std.specs.Map.{remove_entry}
use Rattle.zone_proto.specs.declared.rr_key.RrKey.{RrKey}
use Rattle.zone_proto.specs.Keys.{key_cmp, key_eq}
use Rattle.zone_proto.proofs.Ordering.KeyOrder.{key_itself}
use Rattle.zone_map.specs.DenialOwners.{listed_of}
use Rattle.zone_map.specs.Zones.{IsZone}
use Rattle.zone_map.proofs.OwnersKept.{put_removed}
use Rattle.zone_map.proofs.Stored.{IsZone-put}
use Rattle.zone_map.proofs.record_map.RecordMap.put.Goals as goal

pub invariant_of-self-in-Ok-insert : goal.invariant_of-self-in-Ok-insert
invariant_of-self-in-Ok-insert c =
    record {
      zone = subst IsZone (sym c.in-Ok-insert.ensures.put) (IsZone-put c.self.inside.sets c.args.key c.args.set c.self.invariant.zone c.requires);
      index = c.in-Ok.ensures.ok c.args.set c.self.invariant.zone c.self.invariant.index ∙ ap listed_of (sym c.in-Ok-insert.ensures.put);
    }

pub invariant_of-self-in-Err : goal.invariant_of-self-in-Err
invariant_of-self-in-Err c =
    let before = c.self.inside.sets in
    record {
      zone = subst IsZone (sym c.in-Err.ensures.same) c.self.invariant.zone;
      index =
          c.remove.ensures (insert_entry key_cmp before c.args.key c.args.set) (IsZone-put before c.args.key c.args.set c.self.invariant.zone c.requires)
          (c.in-Ok.ensures.ok c.args.set c.self.invariant.zone c.self.invariant.index)
          (c.in-Err.ensures.same ∙ sym (put_removed before c.args.key c.args.set c.in-Err.ensures.absent (key_itself c.args.key))
          ∙ ap (λ (k : RrKey). remove_entry (key_eq k) (insert_entry key_cmp before c.args.key c.args.set)) (sym (ap (λ p. p.0) c.in-Err.ensures.refused)));
    }
