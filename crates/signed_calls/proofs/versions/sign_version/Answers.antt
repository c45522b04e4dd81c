use Rattle.std.proofs.Common.{rules}
use Rattle.zone_database.specs.Databases.{zones_in}
use Rattle.journal_calls.specs.Plans.{room}
use Rattle.signed_calls.proofs.VersionFacts.{version_given_at}
use Rattle.signed_calls.proofs.versions.sign_version.Goals as goal

pub returns-in-Ok : goal.returns-in-Ok
returns-in-Ok c =
    version_given_at c.args.held.value c.deref.result.now c.deref-2.result.now (zones_in c.args.database.now) c.give.result
    (room c.give.new.frame_written c.args.frame.now c.give.new.frame) c.give.new.update.held c.give.new.plan.held c.args.version c.in-Ok.updated
    (search (rules, c.deref.ensures)) (search (rules, c.deref-2.ensures)) (search (rules, c.in_default.ensures.ready)) (search (rules, c.in-Ok.ensures.finished))
    c.give.ensures
