use Rattle.zone_frozen.proofs.FirstRows.{sorted_none}
use Rattle.zone_frozen.proofs.frozen_sets.FrozenSets.clear.Goals as goal

pub invariant_of-self : goal.invariant_of-self
invariant_of-self c = sorted_none _ c.clear.ensures.items

pub returns-clause-ordered : goal.returns-clause-ordered
returns-clause-ordered c = sorted_none _ c.clear.ensures.items
