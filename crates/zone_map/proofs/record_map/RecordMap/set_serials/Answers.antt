use Rattle.std.proofs.Common.{sym, ap, ◌∙◌, subst}
use Rattle.std.specs.Map.{keys_of}
use Rattle.zone_map.specs.Zones.{IsZone}
use Rattle.zone_map.proofs.OwnerIndexes.{index_of_keys}
use Rattle.zone_map.proofs.Renumbering.{IsZone-with_serial, keys_of-with_serial}
use Rattle.zone_map.proofs.record_map.RecordMap.set_serials.Goals as goal

pub returns-clause-zone : goal.returns-clause-zone
returns-clause-zone c =
    subst IsZone (sym c.put_serials.ensures) (IsZone-with_serial c.args.record_type.0 c.args.serial c.self.inside.sets c.self.invariant.zone)

pub invariant_of-self : goal.invariant_of-self
invariant_of-self c =
    let before = c.self.inside.sets in
    record {
      zone = subst IsZone (sym c.put_serials.ensures) (IsZone-with_serial c.args.record_type.0 c.args.serial before c.self.invariant.zone);
      index =
          index_of_keys before c.put_serials.new.sets c.self.inside.index
          (ap keys_of c.put_serials.ensures ∙ keys_of-with_serial c.args.record_type.0 c.args.serial before) c.self.invariant.index;
    }
