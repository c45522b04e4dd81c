use Rattle.zone_denial.proofs.Names.AboveTests.{at_or_above_by}
use Rattle.zone_planner.proofs.zone.is_at_or_above.Goals as goal

pub returns : goal.returns
returns c = at_or_above_by c.args.ancestor.now c.args.name.now c.zone_of.result c.zone_of.ensures
