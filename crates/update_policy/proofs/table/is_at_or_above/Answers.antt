use Rattle.update_policy.proofs.Ancestors.{at_or_above_by}
use Rattle.update_policy.proofs.table.is_at_or_above.Goals as goal

pub returns : goal.returns
returns c = at_or_above_by c.args.above.now c.args.name.now c.zone_of.result c.zone_of.ensures
