use Rattle.std.proofs.Common.{◌≡◌, sym, ap, ◌∙◌, subst}
use Rattle.std.specs.Prelude.{if◌then◌else◌}
use Rattle.std.specs.Map.{keys_of}
use Rattle.std.proofs.lemmas.Map.{keys-set_value}
use Rattle.zone_proto.specs.Keys.{key_eq}
use Rattle.zone_map.specs.Zones.{owns, put, IsZone, Sets}
use Rattle.zone_map.proofs.OwnerIndexes.{index_of_keys}
use Rattle.zone_map.proofs.Replacing.{replaced, IsZone-replaced}
use Rattle.zone_map.proofs.record_map.RecordMap.replace.Goals as goal

pub returns-clause-replaced : goal.returns-clause-replaced
returns-clause-replaced c =
    let k = c.args.key.now in
    c.replace.ensures.put
    ∙ replaced c.self.inside.sets k c.args.set c.self.invariant.zone
    ∙ ap (λ (m : Sets). if owns m k.name k.record_type.0 then put m k.name k.record_type.0 c.args.set else m) c.self.view_is

pub returns-clause-zone : goal.returns-clause-zone
returns-clause-zone c = subst IsZone (sym c.replace.ensures.put) (IsZone-replaced c.self.inside.sets c.args.key.now c.args.set c.self.invariant.zone c.requires)

pub invariant_of-self : goal.invariant_of-self
invariant_of-self c =
    let before = c.self.inside.sets in
    record {
      zone = subst IsZone (sym c.replace.ensures.put) (IsZone-replaced before c.args.key.now c.args.set c.self.invariant.zone c.requires);
      index =
          index_of_keys before c.replace.new.self c.self.inside.index
          (ap keys_of c.replace.ensures.put ∙ keys-set_value (key_eq c.args.key.now) before c.args.set) c.self.invariant.index;
    }
