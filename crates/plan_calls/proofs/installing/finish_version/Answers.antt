use Rattle.std.proofs.Common.{rules}
use Rattle.zone_database.specs.Databases.{zones_in}
use Rattle.plan_calls.proofs.VersionFacts.{version_put_at}
use Rattle.plan_calls.proofs.installing.finish_version.Goals as goal

pub returns-in-Ok : goal.returns-in-Ok
returns-in-Ok c =
    version_put_at c.args.held.value c.deref.result.now c.deref-2.result.now (zones_in c.args.database.now) (zones_in c.put-in-Ok.new.database) c.put-in-Ok.result
    c.args.plan.now.held c.args.version c.in-Ok.updated (search (rules, c.deref.ensures)) (search (rules, c.deref-2.ensures)) (search (rules, c.in_default.ensures.ready))
    (search (rules, c.in-Ok.ensures.finished)) c.put-in-Ok.ensures (search (rules, c.requires))
