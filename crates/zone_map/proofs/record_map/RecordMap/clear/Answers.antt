use Rattle.std.proofs.Common.{ap, sym, ◌∙◌, subst}
use Rattle.zone_map.specs.DenialOwners.{listed_of}
use Rattle.zone_map.specs.Zones.{IsZone}
use Rattle.zone_map.proofs.Stored.{IsZone-none}
use Rattle.zone_map.proofs.record_map.RecordMap.clear.Goals as goal

pub invariant_of-self : goal.invariant_of-self
invariant_of-self c =
    record {
      zone = subst IsZone (sym c.clear-2.ensures) IsZone-none;
      index = c.clear.ensures ∙ ap listed_of (sym c.clear-2.ensures);
    }
