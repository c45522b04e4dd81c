use Rattle.std.proofs.Common.{◌≡◌, ◌∙◌, List, ap, refl, subst, Ok, Result}
use Rattle.std.proofs.lemmas.Result.{IfOk-weaker}
use Rattle.std.specs.List.{list_all}
use Rattle.std.specs.Prelude.{None, Option, Some, option_copied}
use Rattle.std.specs.Arc.{arc_value}
use Rattle.zone_map.specs.Zones.{Sets}
use Rattle.update_permission.specs.Permissions.{updated_if_permitted}
use Rattle.update_in_place.specs.Parts.{names_about}
use Rattle.update_in_place.specs.Plans.{IsPlan}
use Rattle.update_in_place.specs.declared.in_place.Changed.{Changed}
use Rattle.zone_update.specs.Entries.{IsRefusal}
use Rattle.zone_update.specs.declared.entry.Entry.{Entry}
use Rattle.zone_update.specs.declared.refusal.Refusal.{Refusal}
use Rattle.signed_in_place.specs.Updates.{is_of_its_type}
use Rattle.zone_database.specs.declared.zone.Zone.{Zone}
use Rattle.signed_versions.proofs.Planned.{of_planned, of_unsigned}
use Rattle.signed_versions.proofs.beginning.begin_beside.Goals as goal

pub begin_planned-requires-clause-found : goal.begin_planned-requires-clause-found
begin_planned-requires-clause-found c = c.requires

pub begin_planned-requires-clause-change : goal.begin_planned-requires-clause-change
begin_planned-requires-clause-change c =
    let o = c.args.origin.now in
    let rs = c.args.update.changes.items in
    let z = arc_value c.args.before in
    let update : Sets → Result (Option Sets) Refusal = λ m. updated_if_permitted c.args.rules.now (option_copied c.args.key) o m c.args.update.prerequisites.items rs in
    let is : c.record_map-sets.result.now ≡ z.inner.records = c.record_map-sets.ensures.sets ∙ ap (λ (y : Zone). y.inner.records) c.deref.ensures in
    let plan : IsPlan (names_about o rs) z.inner.records (update z.inner.records) (Some c.in-Ok-Some.changed) =
    subst (λ (m : Sets). IsPlan (names_about o rs) m (update m) (Some c.in-Ok-Some.changed)) is
    (subst (λ (p : Option Changed). IsPlan (names_about o rs) c.record_map-sets.result.now (update c.record_map-sets.result.now) p) c.in-Ok-Some.field-0-is c.in-Ok-Some.ensures) in
    (names_about o rs, plan.0, plan.2)

pub returns-in-Ok-Some-clause-begun : goal.returns-in-Ok-Some-clause-begun
returns-in-Ok-Some-clause-begun c =
    let o = c.args.origin.now in
    let rs = c.args.update.changes.items in
    let z = arc_value c.args.before in
    let update : Sets → Result (Option Sets) Refusal = λ m. updated_if_permitted c.args.rules.now (option_copied c.args.key) o m c.args.update.prerequisites.items rs in
    let is : c.record_map-sets.result.now ≡ z.inner.records = c.record_map-sets.ensures.sets ∙ ap (λ (y : Zone). y.inner.records) c.deref.ensures in
    let plan : IsPlan (names_about o rs) z.inner.records (update z.inner.records) (Some c.in-Ok-Some.changed) =
    subst (λ (m : Sets). IsPlan (names_about o rs) m (update m) (Some c.in-Ok-Some.changed)) is
    (subst (λ (p : Option Changed). IsPlan (names_about o rs) c.record_map-sets.result.now (update c.record_map-sets.result.now) p) c.in-Ok-Some.field-0-is c.in-Ok-Some.ensures) in
    let typed : c.are_of_their_types-are_typed.result ≡ list_all is_of_its_type rs =
    c.are_of_their_types-are_typed.ensures ∙ ap (λ (xs : List Entry). list_all is_of_its_type xs) c.as_slice.ensures.value in
    IfOk-weaker c.begin_planned.result _ _
    (λ b h. of_planned o c.args.keys.now c.args.request.now (names_about o rs) rs (update z.inner.records) c.in-Ok-Some.changed c.are_of_their_types-are_typed.result typed z b plan h) c.begin_planned.ensures.begun

pub returns-in-Ok-Some-clause-fault : goal.returns-in-Ok-Some-clause-fault
returns-in-Ok-Some-clause-fault c =
    of_unsigned c.args.keys.now c.args.request.now (arc_value c.args.before).inner.records _ c.begin_planned.result c.begin_planned.ensures.fault

pub returns-in-Ok-None-clause-begun : goal.returns-in-Ok-None-clause-begun
returns-in-Ok-None-clause-begun c =
    let o = c.args.origin.now in
    let rs = c.args.update.changes.items in
    let z = arc_value c.args.before in
    let update : Sets → Result (Option Sets) Refusal = λ m. updated_if_permitted c.args.rules.now (option_copied c.args.key) o m c.args.update.prerequisites.items rs in
    let is : c.record_map-sets.result.now ≡ z.inner.records = c.record_map-sets.ensures.sets ∙ ap (λ (y : Zone). y.inner.records) c.deref.ensures in
    subst (λ (m : Sets). update m ≡ Ok None) is
    (subst (λ (p : Option Changed). IsPlan (names_about o rs) c.record_map-sets.result.now (update c.record_map-sets.result.now) p) c.in-Ok-None.field-0-is c.in-Ok-None.ensures)

pub returns-in-Err-clause-fault : goal.returns-in-Err-clause-fault
returns-in-Err-clause-fault c =
    let o = c.args.origin.now in
    let rs = c.args.update.changes.items in
    let z = arc_value c.args.before in
    let update : Sets → Result (Option Sets) Refusal = λ m. updated_if_permitted c.args.rules.now (option_copied c.args.key) o m c.args.update.prerequisites.items rs in
    let is : c.record_map-sets.result.now ≡ z.inner.records = c.record_map-sets.ensures.sets ∙ ap (λ (y : Zone). y.inner.records) c.deref.ensures in
    (subst (λ (m : Sets). IsRefusal c.in-Err.refusal (update m)) is c.in-Err.ensures, refl)
