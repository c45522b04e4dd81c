use Rattle.std.proofs.Common.{◌≡◌, ap, sym, subst, ◌∙◌}
use Rattle.std.specs.Arc.{arc_value}
use Rattle.zone_map.specs.Zones.{Sets}
use Rattle.update_in_place.specs.Parts.{AreChanged}
use Rattle.zone_database.specs.declared.zone.Zone.{Zone}
use Rattle.zone_database.proofs.version.brought_up.Goals as goal

pub carry_out-requires : goal.carry_out-requires
carry_out-requires c =
    let is : c.into_record_map-records.result ≡ (arc_value c.args.version.zone).inner.records = c.into_record_map-records.ensures ∙ ap (λ (z : Zone). z.inner.records) c.in-Ok.ensures.ok in
    (c.requires.1.0, c.requires.0, subst (λ (m : Sets). AreChanged c.requires.1.0 m c.requires.0 c.args.version.change.before c.args.version.change.after) (sym is) c.requires.1.1)

pub returns-in-Ok-carry_out : goal.returns-in-Ok-carry_out
returns-in-Ok-carry_out c =
    let is : c.into_record_map-records.result ≡ (arc_value c.args.version.zone).inner.records = c.into_record_map-records.ensures ∙ ap (λ (z : Zone). z.inner.records) c.in-Ok.ensures.ok in
    λ m led. c.in-Ok-carry_out.ensures.done led.0 m (subst (λ (x : Sets). AreChanged led.0 x m c.args.version.change.before c.args.version.change.after) (sym is) led.1)
