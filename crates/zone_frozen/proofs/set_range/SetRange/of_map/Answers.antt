use Rattle.std.proofs.Common.{◌∙◌}
use Rattle.zone_frozen.proofs.SetsFrom.{whole_range}
use Rattle.zone_frozen.proofs.set_range.SetRange.of_map.Goals as goal

pub returns-clause-sets : goal.returns-clause-sets
returns-clause-sets c = c.of_tree.ensures ∙ c.range.ensures.between tt ∙ whole_range c.args.map.now.entries
