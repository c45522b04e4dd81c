use Rattle.std.proofs.Common.{rules}
use Rattle.zone_database.specs.Databases.{zones_in}
use Rattle.plan_calls.proofs.VersionFacts.{of_version}
use Rattle.plan_calls.proofs.installing.finish_in.Goals as goal

pub returns-in-Version : goal.returns-in-Version
returns-in-Version c =
    of_version c.args.held.value.plan (zones_in c.args.database.now) (zones_in c.finish_version.new.database) c.finish_version.result c.finish_version.new.plan.held
    c.args.held.value.zone c.in-Version.version (search (rules, c.in-Version.is, c.replace.ensures.value, c.deref_mut.ensures.value))
    (search (rules, c.finish_version.ensures, c.deref_mut.ensures.value, c.deref_mut.ensures.writes_back))
