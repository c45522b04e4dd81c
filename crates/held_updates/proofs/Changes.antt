-- What comes of a change of a zone, from what the steps of the way say
use Rattle.std.proofs.Common.{◌≡◌, ℕ, Bool, true, false, List, sym, subst, Result, Ok, Err}
use Rattle.std.specs.Prelude.{Option, Some, None}
use Rattle.message_reading.specs.declared.header.Header.{Header}
use Rattle.zone_proto.specs.Names.{Name}
use Rattle.zone_map.specs.Zones.{Sets, IsZone}
use Rattle.shown_zones.specs.Steps.{IsStep}
use Rattle.zone_update.specs.Entries.{Gives}
use Rattle.zone_update.specs.declared.refusal.Refusal.{Refusal}
use Rattle.update_in_place.specs.declared.in_place.Changed.{Changed}
use Rattle.update_in_place.specs.Parts.{is_among, AreChanged}
use Rattle.update_in_place.specs.Plans.{GivesPlan}
use Rattle.zone_database.specs.declared.zone.Zone.{Zone}
use Rattle.zone_database.specs.Versions.{IsAfterAny, IsChangeOfAny}
use Rattle.zone_database.specs.Zones.{zone_of_records}
use Rattle.held_updates.specs.declared.planned.PlannedUpdate.{PlannedUpdate}
use Rattle.held_updates.specs.declared.planned.PlannedUpdate.TheVariants as planned
use Rattle.held_updates.specs.Changing.{records_in, IsChangeAbout, IsChangeIfAny, IsFrameOf, RepliesBy, RepliesChanged}
use Rattle.held_updates.specs.Journaling.{IsFrameIf}
use Rattle.held_updates.specs.Planning.{RepliesTo, RepliesWith}

module _ (origin : Name) (changed : Changed) where
  pub of_any : (found : Option Zone) → IsChangeAbout origin found changed → IsChangeOfAny found changed
  of_any None h = tt
  of_any (Some z) (names, among, next, are) = (names, next, are)

  -- the frame of a change is that of the step from the zone before it to the one after it
  pub is_framed : (is_kept : Bool) (z after : Zone) (octets : List ℕ) → IsZone z.inner.records → IsZone after.inner.records → IsChangeAbout origin (Some z) changed
      → IsAfterAny origin (Some z) changed (Some after) → IsFrameOf is_kept origin changed octets → IsFrameIf is_kept (Some z) after octets
  is_framed false z after octets old new about made is = is
  is_framed true z after octets old new (names, among, next, are) made (step, leads, put) = record {
    step = step;
    leads =
        subst (λ (y : Zone). IsStep y.origin z.inner.records y.inner.records step) (sym (made names next are))
        (leads names z.inner.records next old among are);
    put = put;
    zone = new;
  }

module _ (origin : Name) (names : List Name) (h : Header) (has_extension : Bool) (octets : List ℕ) where
  -- what is to come of a change is what is to come of the zone that it makes
  of_change : (zone : Option Zone) (c : Changed) (next : Sets) → AreChanged names (records_in zone) next c.before c.after → (x : PlannedUpdate)
      → RepliesChanged zone origin c h has_extension x octets → RepliesWith (zone_of_records origin next) h has_extension x octets
  of_change (Some z) c next are (planned.Updated u) (text, after) = (text, after names next are)
  of_change None c next are (planned.Updated u) (text, none) = absurd cc
  of_change zone c next are planned.Refused text = text
  of_change zone c next are planned.Unchanged replied = absurd replied
  of_change zone c next are planned.Other replied = absurd replied

  -- and that of an update that makes it
  pub told : (zone : Option Zone) (whole : Result (Option Sets) Refusal) (x : PlannedUpdate) (change : Result (Option Changed) Refusal) → GivesPlan names (records_in zone) whole change
      → RepliesBy zone origin change h has_extension x octets → (made : Result (Option Sets) Refusal) × Gives made whole × RepliesTo made origin h has_extension x octets
  told zone whole x (Ok (Some c)) (next, is, are) replied = (Ok (Some next), is, of_change zone c next are x replied)
  told zone whole x (Ok None) is replied = (Ok None, is, replied)
  told zone whole x (Err e) refused replied = (Err e, refused, replied)

pub fits : (origin : Name) (names : List Name) → is_among names origin ≡ true → (zone : Option Zone) (whole : Result (Option Sets) Refusal) (change : Result (Option Changed) Refusal)
    → GivesPlan names (records_in zone) whole change → IsChangeIfAny origin zone change
fits origin names among zone whole (Ok (Some c)) (next, is, are) = (names, among, next, are)
fits origin names among zone whole (Ok None) h = tt
fits origin names among zone whole (Err e) h = tt

-- ---- an update that changes something

pub asks_change : (origin : Name) (found : Option Zone) (change : Result (Option Changed) Refusal) (c : Changed) → change ≡ Ok (Some c) → IsChangeIfAny origin found change
    → IsChangeAbout origin found c
asks_change origin found change c is asks = subst (λ (r : Result (Option Changed) Refusal). IsChangeIfAny origin found r) is asks

pub replied_changed : (origin : Name) (found : Option Zone) (change : Result (Option Changed) Refusal) (c : Changed) (h : Header) (has_extension : Bool) (x : PlannedUpdate) (octets : List ℕ)
    → change ≡ Ok (Some c) → RepliesChanged found origin c h has_extension x octets → RepliesBy found origin change h has_extension x octets
replied_changed origin found change c h has_extension x octets is replied =
    subst (λ (r : Result (Option Changed) Refusal). RepliesBy found origin r h has_extension x octets) (sym is) replied
