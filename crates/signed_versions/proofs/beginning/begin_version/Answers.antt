use Rattle.std.proofs.Common.{◌≡◌, ◌∙◌, ap, refl, sym, subst, Result}
use Rattle.std.specs.List.{find}
use Rattle.std.specs.Prelude.{IfErr, IfOk, None, Option, Some, option_copied, option_map}
use Rattle.std.specs.Arc.{arc_value}
use Rattle.zone_map.specs.Zones.{Sets}
use Rattle.update_permission.specs.Permissions.{updated_if_permitted}
use Rattle.update_in_place.specs.Parts.{names_about}
use Rattle.zone_update.specs.declared.refusal.Refusal.{Refusal}
use Rattle.zone_database.specs.declared.zone.Zone.{Zone}
use Rattle.zone_database.specs.Databases.{begins_at, zones_in}
use Rattle.signed_versions.specs.Begun.{IsBegunIn, IsUnbegunIn}
use Rattle.signed_versions.specs.declared.beginning.BegunVersion.TheVariants as begun
use Rattle.signed_versions.proofs.Planned.{without_memory}
use Rattle.signed_versions.proofs.beginning.begin_version.Goals as goal

pub begin_beside-requires : goal.begin_beside-requires
begin_beside-requires c =
    let o = c.args.origin.now in
    let found : Some (arc_value c.in-Ok-Some.before) ≡ find (begins_at o) (zones_in c.args.zones.now) = ap (option_map arc_value) (sym c.in-Ok-Some.field-0-is) ∙ c.in-Ok-Some.ensures in
    sym found

pub returns-in-Ok-Some-clause-begun : goal.returns-in-Ok-Some-clause-begun
returns-in-Ok-Some-clause-begun c =
    let o = c.args.origin.now in
    let rs = c.args.update.changes.items in
    let update : Sets → Result (Option Sets) Refusal = λ m. updated_if_permitted c.args.rules.now (option_copied c.args.key) o m c.args.update.prerequisites.items rs in
    let found : Some (arc_value c.in-Ok-Some.before) ≡ find (begins_at o) (zones_in c.args.zones.now) = ap (option_map arc_value) (sym c.in-Ok-Some.field-0-is) ∙ c.in-Ok-Some.ensures in
    subst (λ (f : Option Zone). IfOk c.begin_beside.result (IsBegunIn o c.args.keys.now c.args.request.now (names_about o rs) rs update f)) found c.begin_beside.ensures.begun

pub returns-in-Ok-Some-clause-fault : goal.returns-in-Ok-Some-clause-fault
returns-in-Ok-Some-clause-fault c =
    let o = c.args.origin.now in
    let rs = c.args.update.changes.items in
    let update : Sets → Result (Option Sets) Refusal = λ m. updated_if_permitted c.args.rules.now (option_copied c.args.key) o m c.args.update.prerequisites.items rs in
    let found : Some (arc_value c.in-Ok-Some.before) ≡ find (begins_at o) (zones_in c.args.zones.now) = ap (option_map arc_value) (sym c.in-Ok-Some.field-0-is) ∙ c.in-Ok-Some.ensures in
    subst (λ (f : Option Zone). IfErr c.begin_beside.result (IsUnbegunIn c.args.keys.now c.args.request.now update f)) found c.begin_beside.ensures.fault

pub returns-in-Ok-None-clause-begun : goal.returns-in-Ok-None-clause-begun
returns-in-Ok-None-clause-begun c =
    let o = c.args.origin.now in
    let rs = c.args.update.changes.items in
    let update : Sets → Result (Option Sets) Refusal = λ m. updated_if_permitted c.args.rules.now (option_copied c.args.key) o m c.args.update.prerequisites.items rs in
    let found : None ≡ find (begins_at o) (zones_in c.args.zones.now) = ap (option_map arc_value) (sym c.in-Ok-None.field-0-is) ∙ c.in-Ok-None.ensures in
    subst (λ (f : Option Zone). IsBegunIn o c.args.keys.now c.args.request.now (names_about o rs) rs update f begun.NoZone) found refl

pub returns-in-Err-clause-fault : goal.returns-in-Err-clause-fault
returns-in-Err-clause-fault c =
    let o = c.args.origin.now in
    let rs = c.args.update.changes.items in
    let update : Sets → Result (Option Sets) Refusal = λ m. updated_if_permitted c.args.rules.now (option_copied c.args.key) o m c.args.update.prerequisites.items rs in
    without_memory c.args.keys.now c.args.request.now update (find (begins_at o) (zones_in c.args.zones.now))
