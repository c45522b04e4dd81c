-- The frame of a change is that of the step from the zone before it to the one after it
use Rattle.std.proofs.Common.{◌≡◌, ℕ, Bool, true, false, List, sym, subst}
use Rattle.std.specs.Prelude.{Some}
use Rattle.zone_proto.specs.Names.{Name}
use Rattle.zone_map.specs.Zones.{Sets, IsZone}
use Rattle.shown_zones.specs.Steps.{IsStep}
use Rattle.update_in_place.specs.declared.in_place.Changed.{Changed}
use Rattle.update_in_place.specs.Parts.{is_among, AreChanged}
use Rattle.zone_database.specs.declared.zone.Zone.{Zone}
use Rattle.zone_database.specs.Zones.{zone_of_records}
use Rattle.held_updates.specs.Changing.{IsFrameOf}
use Rattle.held_updates.specs.Journaling.{IsFrameIf}

pub is_framed : (origin : Name) (changed : Changed) (is_kept : Bool) (z after : Zone) (sets : Sets) (octets : List ℕ) → IsZone z.inner.records → IsZone sets
    → after ≡ zone_of_records origin sets
    → (names : List Name) × (is_among names origin ≡ true) × AreChanged names z.inner.records sets changed.before changed.after
    → IsFrameOf is_kept origin changed octets → IsFrameIf is_kept (Some z) after octets
is_framed origin changed false z after sets octets old new made about is = is
is_framed origin changed true z after sets octets old new made (names, among, are) (step, leads, put) = record {
  step = step;
  leads = subst (λ (y : Zone). IsStep y.origin z.inner.records y.inner.records step) (sym made) (leads names z.inner.records sets old among are);
  put = put;
  zone = subst (λ (y : Zone). IsZone y.inner.records) (sym made) new;
}
