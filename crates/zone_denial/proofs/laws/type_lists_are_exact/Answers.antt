use Rattle.zone_denial.proofs.Chain.NsecLists.{list_ascends, list_has, from_list}
use Rattle.zone_denial.proofs.laws.type_lists_are_exact.Goals as goal

pub returns-clause-ascending : goal.returns-clause-ascending
returns-clause-ascending c = list_ascends

pub returns-clause-types : goal.returns-clause-types
returns-clause-types c = λ m n t. (from_list m n t, list_has m n t)
