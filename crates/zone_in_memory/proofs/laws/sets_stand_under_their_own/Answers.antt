use Rattle.zone_map.proofs.Lists.{owner_lowered, owner_named, records_typed}
use Rattle.zone_in_memory.proofs.laws.sets_stand_under_their_own.Goals as goal

pub returns-clause-owners : goal.returns-clause-owners
returns-clause-owners c = λ m n t zone h. record { name = owner_named m n t zone h; lower = owner_lowered m n t zone h }

pub returns-clause-types : goal.returns-clause-types
returns-clause-types c = records_typed
