use Rattle.std.proofs.Common.{refl, subst, Result}
use Rattle.std.specs.List.{find}
use Rattle.std.specs.Prelude.{IfSome, Option, Some}
use Rattle.zone_map.specs.Zones.{Sets}
use Rattle.update_permission.specs.Permissions.{updated_if_permitted}
use Rattle.update_in_place.specs.Parts.{names_about}
use Rattle.zone_update.specs.declared.refusal.Refusal.{Refusal}
use Rattle.zone_database.specs.Databases.{begins_at, zones_in}
use Rattle.signed_versions.specs.Begun.{IsBegunIn}
use Rattle.signed_versions.specs.Versions.{VersionState}
use Rattle.signed_versions.specs.declared.beginning.BegunVersion.TheVariants as begun
use Rattle.signed_versions.proofs.Asked.{made_for}
use Rattle.signed_versions.proofs.asking.begin_update.Goals as goal

pub same-version : goal.same-version
same-version c = refl

pub returns-clause-made : goal.returns-clause-made
returns-clause-made c =
    let o = c.args.origin.now in
    let keys = c.args.keys.now in
    let request = c.args.request.now in
    let asked = c.args.asked in
    let rs = asked.update.changes.items in
    let rules = c.rules_for-rules.result.now in
    let zs = zones_in c.args.zones.now in
    let update : Sets → Result (Option Sets) Refusal = λ m. updated_if_permitted rules (Some c.args.key.now) o m asked.update.prerequisites.items rs in
    let found : IfSome (Some c.in-Some.version) (λ v. IsBegunIn o keys request (names_about o rs) rs update (find (begins_at o) zs) (begun.Waiting v)) =
    subst (λ (x : Option VersionState). IfSome x (λ v. IsBegunIn o keys request (names_about o rs) rs update (find (begins_at o) zs) (begun.Waiting v))) c.in-Some.is c.in_ok-version.ensures.waiting in
    made_for c.args.access.now o keys request zs c.in-Some.version c.args.key.now c.in-Ok.name c.args.message.now c.respond.new.out.items asked rules c.requires c.in-Ok.ensures.ok
    (c.is_same.ensures c.if-not-is_same.false) (c.in_ok-is_signed_zone.ensures c.if-not-branch.false) c.rules_for-rules.ensures found c.in_ok-respond.ensures
