use Rattle.std.proofs.Common.{subst, Result}
use Rattle.std.specs.List.{find}
use Rattle.std.specs.Prelude.{Option, Some}
use Rattle.zone_map.specs.Zones.{Sets}
use Rattle.update_permission.specs.Permissions.{updated_if_permitted}
use Rattle.update_in_place.specs.Parts.{names_about}
use Rattle.zone_update.specs.declared.refusal.Refusal.{Refusal}
use Rattle.zone_database.specs.Databases.{begins_at, zones_in}
use Rattle.signed_versions.specs.Begun.{IsBegunIn}
use Rattle.signed_versions.specs.declared.beginning.BegunVersion.{BegunVersion}
use Rattle.signed_versions.proofs.asking.waiting_version.Goals as goal

pub returns-in-Ok-Waiting-clause-waiting : goal.returns-in-Ok-Waiting-clause-waiting
returns-in-Ok-Waiting-clause-waiting c =
    let o = c.args.origin.now in
    let rs = c.args.update.changes.items in
    let update : Sets → Result (Option Sets) Refusal = λ m. updated_if_permitted c.args.rules.now (Some c.args.key.now) o m c.args.update.prerequisites.items rs in
    subst (λ (b : BegunVersion). IsBegunIn o c.args.keys.now c.args.request.now (names_about o rs) rs update (find (begins_at o) (zones_in c.args.zones.now)) b) c.in-Ok-Waiting.field-0-is
    c.in-Ok-Waiting.ensures.begun
