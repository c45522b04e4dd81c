use Rattle.std.proofs.Common.{◌∙◌, ap, refl, subst}
use Rattle.std.specs.Prelude.{Some}
use Rattle.std.specs.Arc.{arc_value}
use Rattle.zone_map.specs.Zones.{IsZone}
use Rattle.zone_database.specs.declared.zone.Zone.{Zone}
use Rattle.held_updates.specs.Journaling.{serial_of}
use Rattle.signed_versions.proofs.Framed.{is_framed}
use Rattle.signed_versions.proofs.finishing.updated_zone.Goals as goal

pub same-records : goal.same-records
same-records c = refl

pub made_of-requires : goal.made_of-requires
made_of-requires c = (c.requires.0, c.requires.2)

pub returns-in-Ok-made_of-clause-zone : goal.returns-in-Ok-made_of-clause-zone
returns-in-Ok-made_of-clause-zone c = c.in-Ok-made_of.ensures

pub returns-in-Ok-made_of-clause-journaled : goal.returns-in-Ok-made_of-clause-journaled
returns-in-Ok-made_of-clause-journaled c = (
  c.in-Ok.ensures ∙ ap (λ (y : Zone). serial_of (Some y)) c.deref-2.ensures,
  is_framed c.args.origin c.args.changed c.args.is_kept (arc_value c.args.before) c.in-Ok-made_of.zone c.args.records c.in_ok-frame.frame.items
      (subst (λ (y : Zone). IsZone y.inner.records) c.deref.ensures c.as_map-had.ensures.zone) c.as_map-has.ensures.zone c.in-Ok-made_of.ensures c.requires c.in_ok-frame.ensures,
)
