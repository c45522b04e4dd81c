use Rattle.std.proofs.Common.{◌≡◌, List, sym, ap, ◌∙◌, subst}
use Rattle.std.specs.Map.{keys_of}
use Rattle.zone_proto.specs.declared.record.Record.{Record}
use Rattle.zone_frozen.specs.Sets.{with_step}
use Rattle.zone_map.specs.Renewals.{with_signatures, stepped_under, AreHanded}
use Rattle.zone_map.specs.Zones.{Sets, IsZone}
use Rattle.zone_map.proofs.OwnerIndexes.{index_of_keys}
use Rattle.zone_map.proofs.Renewing.{IsZone-with_signatures, IsZone-stepped_under, keys_renewed}
use Rattle.zone_map.proofs.record_map.RecordMap.renew.Goals as goal

-- the sets of the map at the end
is_renewed : (c : goal.After-step_serial) (made : List (List Record)) → AreHanded c.self.inside.sets made c.args.lists.items c.args.exchanged
    → c.step_serial.new.self ≡ stepped_under c.args.apex.now (with_signatures c.self.inside.sets made)
is_renewed c made handed = c.step_serial.ensures ∙ ap (with_step c.args.apex.now) (c.put_signatures.ensures made handed)

-- what is handed over of the sets is handed over of those inside
of_inside : (c : goal.After-step_serial) (made : List (List Record)) → AreHanded c.args.self.now made c.args.lists.items c.args.exchanged → AreHanded c.self.inside.sets made c.args.lists.items c.args.exchanged
of_inside c made = subst (λ (m : Sets). AreHanded m made c.args.lists.items c.args.exchanged) (sym c.self.view_is)

is_zone : (c : goal.After-step_serial) → IsZone c.step_serial.new.self
is_zone c =
    let (made, handed) = c.requires in
    subst IsZone (sym (is_renewed c made (of_inside c made handed)))
    (IsZone-stepped_under c.args.apex.now _ (IsZone-with_signatures c.self.inside.sets made c.self.invariant.zone))

pub returns-clause-sets : goal.returns-clause-sets
returns-clause-sets c = λ made handed. is_renewed c made (of_inside c made handed) ∙ ap (λ (m : Sets). stepped_under c.args.apex.now (with_signatures m made)) c.self.view_is

pub returns-clause-zone : goal.returns-clause-zone
returns-clause-zone c = is_zone c

pub invariant_of-self : goal.invariant_of-self
invariant_of-self c =
    let (made, handed) = c.requires in
    record {
      zone = is_zone c;
      index =
          index_of_keys c.self.inside.sets c.step_serial.new.self c.self.inside.index
          (ap keys_of (is_renewed c made (of_inside c made handed)) ∙ keys_renewed c.args.apex.now c.self.inside.sets made) c.self.invariant.index;
    }
