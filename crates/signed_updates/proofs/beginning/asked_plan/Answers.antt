use Rattle.std.proofs.Common.{sym, ap, ◌∙◌}
use Rattle.std.specs.Prelude.{Some, option_copied}
use Rattle.update_message.specs.Updates.{parts_of}
use Rattle.zone_database.specs.Databases.{zones_in}
use Rattle.signed_updates.proofs.Beginnings.{of_signed}
use Rattle.signed_updates.proofs.beginning.asked_plan.Goals as goal

pub returns-in_ok-reply-in-Some-clause-plan : goal.returns-in_ok-reply-in-Some-clause-plan
returns-in_ok-reply-in-Some-clause-plan c =
    of_signed c.args.access.now (Some c.args.key.now) c.args.origin.now c.args.signing (zones_in c.args.zones.now) c.answer_signed_update.new.out.items (parts_of c.args.asked) c.in-Ok.name
    c.in-Some.zone.now c.rules_for-rules.result.now c.record_map-sets.result.now c.in_ok-reply-in-Some.reply c.in-Ok.ensures.ok
    (sym c.in_ok-found.ensures ∙ ap (λ h. option_copied h) c.in-Some.is) c.rules_for-rules.ensures c.record_map-sets.ensures.sets c.in_ok-reply-in-Some.ensures
