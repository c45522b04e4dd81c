use Rattle.hashed_changes.proofs.Ancestors.{at_or_above_by}
use Rattle.hashed_changes.proofs.authority.is_at_or_above.Goals as goal

pub returns : goal.returns
returns c = at_or_above_by c.args.ancestor.now c.args.name.now c.zone_of.result c.zone_of.ensures
