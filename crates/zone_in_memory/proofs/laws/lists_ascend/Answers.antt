use Rattle.zone_map.proofs.Lists.{types_ascend, owners_ascend, names_ascend}
use Rattle.zone_in_memory.proofs.laws.lists_ascend.Goals as goal

pub returns-clause-types : goal.returns-clause-types
returns-clause-types c = λ m n zone. types_ascend m n zone.ordered

pub returns-clause-owners : goal.returns-clause-owners
returns-clause-owners c = λ m t zone. owners_ascend m t zone.ordered

pub returns-clause-names : goal.returns-clause-names
returns-clause-names c = λ m zone. names_ascend m zone.ordered
