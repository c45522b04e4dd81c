-- A version that is begun differs from the zone in the sets of its names alone
use Rattle.std.proofs.Common.{List}
use Rattle.zone_proto.specs.Names.{Name}
use Rattle.zone_map.specs.Zones.{Sets}
use Rattle.zone_planner.specs.declared.keys.PlannedKey.{PlannedKey}
use Rattle.zone_planner.specs.declared.request.Request.{Request}
use Rattle.update_in_place.specs.declared.in_place.Changed.{Changed}
use Rattle.update_in_place.specs.Parts.{AreChanged}
use Rattle.signed_in_place.specs.InPlace.{IsBegun}
use Rattle.signed_in_place.specs.declared.beginning.Begun.TheVariants as change
use Rattle.signed_in_place.specs.declared.beginning.PreparedChange.{PreparedChange}
use Rattle.zone_database.specs.declared.zone.Zone.{Zone}
use Rattle.signed_versions.specs.Versions.{IsOfItsNames}

pub of_its_names : (origin : Name) (keys : List PlannedKey) (request : Request) (z : Zone) (changed : Changed) (next : Sets) (p : PreparedChange)
    → (names : List Name) × (after : Sets) × AreChanged names z.inner.records after changed.before changed.after
    → IsBegun origin keys request changed.before changed.after z.inner.records next (change.Changed p)
    → IsOfItsNames (record { origin = origin; before = z; next = next; change = p })
of_its_names origin keys request z changed next p (names, after, are) (is, made, others) =
    let h = made names after are in
    record {
      apex = h.apex;
      others = others;
      planned = λ n t e. let due = h.due.each n t in rw e at due;
    }
