use Rattle.held_updates.proofs.Committed.{commits_replace_one}
use Rattle.held_updates.proofs.Permitted.{plans_are_permitted, refusals_change_nothing, updates_are_permitted}
use Rattle.held_updates.proofs.laws.updates_are_permitted.Goals as goal

pub returns-clause-planned : goal.returns-clause-planned
returns-clause-planned c = plans_are_permitted

pub returns-clause-permitted : goal.returns-clause-permitted
returns-clause-permitted c = updates_are_permitted

pub returns-clause-refused : goal.returns-clause-refused
returns-clause-refused c = refusals_change_nothing

pub returns-clause-committed : goal.returns-clause-committed
returns-clause-committed c = commits_replace_one
