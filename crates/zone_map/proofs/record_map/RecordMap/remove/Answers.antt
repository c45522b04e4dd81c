use Rattle.std.proofs.Common.{ap, sym, ◌∙◌, subst}
use Rattle.std.specs.Prelude.{option_map}
use Rattle.std.specs.Map.{remove_entry}
use Rattle.zone_proto.specs.declared.rr_key.RrKey.{RrKey}
use Rattle.zone_proto.specs.Keys.{key_eq}
use Rattle.zone_map.specs.DenialOwners.{listed_of}
use Rattle.zone_map.specs.Zones.{IsZone}
use Rattle.zone_frozen.proofs.UnderKeys.{removed_absent}
use Rattle.zone_map.proofs.Stored.{IsZone-without}
use Rattle.zone_map.proofs.record_map.RecordMap.remove.Goals as goal

pub invariant_of-self : goal.invariant_of-self
invariant_of-self c =
    record {
      zone = subst IsZone (sym (c.remove.ensures.removed ∙ removed_absent c.args.key.now c.self.inside.sets (sym c.remove.ensures.set ∙ ap (option_map (λ e. e.1)) c.in_err-key.was))) c.self.invariant.zone;
      index = c.self.invariant.index ∙ ap listed_of (sym (c.remove.ensures.removed ∙ removed_absent c.args.key.now c.self.inside.sets (sym c.remove.ensures.set ∙ ap (option_map (λ e. e.1)) c.in_err-key.was)));
    }

pub invariant_of-self-2 : goal.invariant_of-self-2
invariant_of-self-2 c =
    let had = c.self.inside.sets in
    record {
      zone = subst IsZone (sym c.in_ok-key.ensures.removed) (IsZone-without had c.args.key.now c.self.invariant.zone);
      index =
          c.remove-2.ensures had c.self.invariant.zone c.self.invariant.index
          (c.in_ok-key.ensures.removed ∙ ap (λ (k : RrKey). remove_entry (key_eq k) had) (sym c.in_ok-key.ensures.key));
    }
