use Rattle.std.proofs.Common.{rules}
use Rattle.zone_database.specs.Databases.{zones_in}
use Rattle.journal_calls.specs.Plans.{room}
use Rattle.signed_calls.proofs.SignFacts.{done_at}
use Rattle.signed_calls.proofs.signing.sign_whole.Goals as goal

pub returns-in-Ok : goal.returns-in-Ok
returns-in-Ok c =
    done_at c.args.held.value.plan c.deref.result.now.plan (zones_in c.args.database.now)
    (room c.sign_planned.new.frame_written c.args.frame.now c.sign_planned.new.frame) c.sign_planned.new.update.held c.args.plan.now.held c.in-Ok.ensures
    (search (rules, c.deref.ensures)) c.requires.plan
