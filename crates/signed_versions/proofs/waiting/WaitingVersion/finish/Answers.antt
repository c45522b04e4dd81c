use Rattle.std.proofs.Common.{◌≡◌, ◌∙◌, ap, refl, sym, subst}
use Rattle.std.specs.Prelude.{None, Some}
use Rattle.std.specs.Arc.{arc_value}
use Rattle.zone_map.specs.Zones.{set_at, Sets}
use Rattle.zone_planning.specs.Filling.{finish_fault}
use Rattle.update_in_place.specs.Parts.{AreChanged}
use Rattle.zone_database.specs.declared.zone.Zone.{Zone}
use Rattle.held_updates.specs.Journaling.{IsJournaled}
use Rattle.signed_versions.specs.Versions.{IsSigned, IsUnfinished, VersionState}
use Rattle.signed_versions.specs.declared.finishing.VersionFault.TheVariants as fault
use Rattle.signed_versions.proofs.waiting.WaitingVersion.finish.Goals as goal

pub finish_change-requires-clause-others : goal.finish_change-requires-clause-others
finish_change-requires-clause-others c = λ n t h.
    let is : c.record_map-zone.result.now ≡ (arc_value c.self.inside.before).inner.records = c.record_map-zone.ensures.sets ∙ ap (λ (y : Zone). y.inner.records) c.deref.ensures in
    c.self.invariant.others n t h ∙ sym (ap (λ (m : Sets). set_at m n t) is)

pub finish_change-requires-clause-planned : goal.finish_change-requires-clause-planned
finish_change-requires-clause-planned c = c.self.invariant.planned

pub returns-in-Err-clause-fault : goal.returns-in-Err-clause-fault
returns-in-Err-clause-fault c = subst (λ (v : VersionState). IsUnfinished v c.args.signatures.now (fault.Signatures c.in-Err.fault)) c.self.view_is c.in-Err.ensures.fault

pub same-origin : goal.same-origin
same-origin c = refl

pub same-next : goal.same-next
same-next c = refl

pub updated_zone-requires : goal.updated_zone-requires
updated_zone-requires c =
    let names = c.self.inside.change.names.items in
    let is : c.record_map-zone.result.now ≡ (arc_value c.self.inside.before).inner.records = c.record_map-zone.ensures.sets ∙ ap (λ (y : Zone). y.inner.records) c.deref.ensures in (
      names,
      c.self.invariant.apex,
      subst (λ (m : Sets). AreChanged names m c.finish_change.new.next c.in-Ok.changed.before c.in-Ok.changed.after) is c.in-Ok.ensures.changed,
    )

pub returns-in-Ok-updated_zone-clause-zone : goal.returns-in-Ok-updated_zone-clause-zone
returns-in-Ok-updated_zone-clause-zone c =
    let v : VersionState = record { origin = c.self.inside.origin; before = arc_value c.self.inside.before; next = c.self.inside.next; change = c.self.inside.change } in
    let its : IsSigned v c.args.signatures.now c.in-Ok-updated_zone.updated.zone = record { sets = c.finish_change.new.next; is = c.in-Ok-updated_zone.ensures.zone; each = c.in-Ok.ensures.signed } in
    subst (λ (x : VersionState). IsSigned x c.args.signatures.now c.in-Ok-updated_zone.updated.zone) c.self.view_is its

pub returns-in-Ok-updated_zone-clause-journaled : goal.returns-in-Ok-updated_zone-clause-journaled
returns-in-Ok-updated_zone-clause-journaled c =
    subst (λ (v : VersionState). IsJournaled c.args.is_kept (Some v.before) c.in-Ok-updated_zone.updated) c.self.view_is c.in-Ok-updated_zone.ensures.journaled

pub returns-in-Ok-updated_zone-clause-faultless : goal.returns-in-Ok-updated_zone-clause-faultless
returns-in-Ok-updated_zone-clause-faultless c =
    subst (λ (v : VersionState). finish_fault v.change.plan.keys.items v.change.plan.records c.args.signatures.now ≡ None) c.self.view_is c.in-Ok.ensures.faultless
