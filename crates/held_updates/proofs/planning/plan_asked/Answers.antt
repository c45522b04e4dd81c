use Rattle.std.proofs.Common.{◌≡◌, sym, subst, Result}
use Rattle.std.specs.List.{find}
use Rattle.std.specs.Prelude.{option_copied, Option}
use Rattle.zone_map.specs.Zones.{Sets}
use Rattle.zone_update.specs.Entries.{Gives}
use Rattle.zone_update.specs.declared.refusal.Refusal.{Refusal}
use Rattle.update_in_place.specs.Parts.{names_about}
use Rattle.update_in_place.proofs.About.{origin_among}
use Rattle.zone_database.specs.declared.zone.Zone.{Zone}
use Rattle.zone_database.specs.Databases.{begins_at, zones_in}
use Rattle.held_updates.specs.Changing.{IsChangeIfAny, RepliesBy}
use Rattle.held_updates.specs.Journaling.{IfUpdated, IsJournaled}
use Rattle.held_updates.specs.Planning.{updated_in, RepliesTo}
use Rattle.held_updates.proofs.Changes.{fits, told}
use Rattle.held_updates.proofs.Plans.{journaled_in, planned_of}
use Rattle.held_updates.proofs.planning.plan_asked.Goals as goal

pub reply-requires : goal.reply-requires
reply-requires c =
    let o = c.in-Ok.origin in
    let rs = c.args.asked.update.changes.items in
    subst (λ (found : Option Zone). IsChangeIfAny o found c.change_in-change.result) c.get-zone.ensures
    (fits o (names_about o rs) (origin_among o rs) (option_copied c.get-zone.result) _ c.change_in-change.result c.change_in-change.ensures)

pub returns-clause-plan : goal.returns-clause-plan
returns-clause-plan c =
    let o = c.in-Ok.origin in
    let asked = c.args.asked in
    let zone : Option Zone = option_copied c.get-zone.result in
    let x = c.in_ok-planned.planned in
    let octets = c.reply.new.out.items in
    let rules = c.rules_for-rules.result.now in
    let replied : RepliesBy zone o c.change_in-change.result asked.header asked.has_extension x octets =
    subst (λ (found : Option Zone). RepliesBy found o c.change_in-change.result asked.header asked.has_extension x octets) (sym c.get-zone.ensures) c.in_ok-planned.ensures.reply in
    let t : (made : Result (Option Sets) Refusal) × Gives made (updated_in rules (option_copied c.args.key) o zone asked.update.prerequisites.items asked.update.changes.items)
    × RepliesTo made o asked.header asked.has_extension x octets =
    told o (names_about o asked.update.changes.items) asked.header asked.has_extension octets zone _ x c.change_in-change.result c.change_in-change.ensures replied in
    planned_of c.args.access.now (option_copied c.args.key) (zones_in c.args.zones.now) asked o zone rules t.0 x octets c.in-Ok.ensures.ok c.get-zone.ensures c.rules_for-rules.ensures t.1 t.2

pub returns-clause-journaled : goal.returns-clause-journaled
returns-clause-journaled c =
    let o = c.in-Ok.origin in
    let asked = c.args.asked in
    let zone : Option Zone = option_copied c.get-zone.result in
    let x = c.in_ok-planned.planned in
    let octets = c.reply.new.out.items in
    let rules = c.rules_for-rules.result.now in
    let replied : RepliesBy zone o c.change_in-change.result asked.header asked.has_extension x octets =
    subst (λ (found : Option Zone). RepliesBy found o c.change_in-change.result asked.header asked.has_extension x octets) (sym c.get-zone.ensures) c.in_ok-planned.ensures.reply in
    let t : (made : Result (Option Sets) Refusal) × Gives made (updated_in rules (option_copied c.args.key) o zone asked.update.prerequisites.items asked.update.changes.items)
    × RepliesTo made o asked.header asked.has_extension x octets =
    told o (names_about o asked.update.changes.items) asked.header asked.has_extension octets zone _ x c.change_in-change.result c.change_in-change.ensures replied in
    journaled_in c.args.access.now (option_copied c.args.key) (zones_in c.args.zones.now) asked o zone rules c.args.is_kept t.0 x octets c.get-zone.ensures t.2
    (subst (λ (found : Option Zone). IfUpdated (IsJournaled c.args.is_kept found) x) (sym c.get-zone.ensures) c.in_ok-planned.ensures.journaled)
