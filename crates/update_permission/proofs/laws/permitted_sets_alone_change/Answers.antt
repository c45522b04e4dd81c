use Rattle.update_permission.proofs.Permitted.{nothing_changes_without_key, permitted_sets_alone_change}
use Rattle.update_permission.proofs.laws.permitted_sets_alone_change.Goals as goal

pub returns-clause-permitted : goal.returns-clause-permitted
returns-clause-permitted c = permitted_sets_alone_change

pub returns-clause-no_key : goal.returns-clause-no_key
returns-clause-no_key c = nothing_changes_without_key
