use Rattle.std.proofs.Common.{◌≡◌, sym, subst}
use Rattle.std.specs.List.{find}
use Rattle.std.specs.Prelude.{Option, Some}
use Rattle.zone_map.specs.Zones.{IsZone}
use Rattle.zone_database.specs.declared.zone.Zone.{Zone}
use Rattle.zone_database.specs.Databases.{begins_at, zones_in}
use Rattle.zone_database.specs.Versions.{IsAfterAny}
use Rattle.held_updates.specs.Changing.{IsChangeAbout}
use Rattle.held_updates.specs.Journaling.{serial_of, IsFrameIf}
use Rattle.held_updates.proofs.Changes.{is_framed, of_any}
use Rattle.held_updates.proofs.journaling.changed_zone.Goals as goal

pub next_zone-requires : goal.next_zone-requires
next_zone-requires c = of_any c.args.origin.now c.args.changed (find (begins_at c.args.origin.now) (zones_in c.args.zones.now)) c.requires

pub returns-in-Ok-Some-clause-zone : goal.returns-in-Ok-Some-clause-zone
returns-in-Ok-Some-clause-zone c =
    let o = c.args.origin.now in
    subst (λ (y : Option Zone). IsAfterAny o (find (begins_at o) (zones_in c.args.zones.now)) c.args.changed y) c.in-Ok-Some.field-0-is c.in-Ok-Some.ensures.next

pub returns-in-Ok-Some-clause-journaled : goal.returns-in-Ok-Some-clause-journaled
returns-in-Ok-Some-clause-journaled c =
    let o = c.args.origin.now in
    let found : Some c.in-Some.before.now ≡ find (begins_at o) (zones_in c.args.zones.now) = c.in-Some.ensures in
    let changed = c.args.changed in
    subst (λ (f : Option Zone). (c.in-Ok.replaces ≡ serial_of f) × IsFrameIf c.args.is_kept f c.in-Ok-Some.zone c.in_ok-frame.frame.items) found (
      c.in-Ok.ensures,
      is_framed o changed c.args.is_kept c.in-Some.before.now c.in-Ok-Some.zone c.in_ok-frame.frame.items c.as_map-sets.ensures.zone
          (subst (λ (y : Zone). IsZone y.inner.records) c.zone.ensures c.as_map-sets-in-Ok-Some.ensures.zone)
          (subst (λ (f : Option Zone). IsChangeAbout o f changed) (sym found) c.requires)
          (subst (λ (f : Option Zone). IsAfterAny o f changed (Some c.in-Ok-Some.zone)) (sym found)
          (subst (λ (y : Option Zone). IsAfterAny o (find (begins_at o) (zones_in c.args.zones.now)) changed y) c.in-Ok-Some.field-0-is c.in-Ok-Some.ensures.next)) c.in_ok-frame.ensures,
    )
