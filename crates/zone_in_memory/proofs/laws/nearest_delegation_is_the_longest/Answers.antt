use Rattle.zone_map.specs.Direct.{is_delegated_for}
use Rattle.zone_map.proofs.Delegations.{found_above, found_longest, none_found}
use Rattle.zone_in_memory.proofs.laws.nearest_delegation_is_the_longest.Goals as goal

pub returns-clause-above : goal.returns-clause-above
returns-clause-above c = λ m n a t e. (found_above (is_delegated_for m n t) n a e).0

pub returns-clause-delegated : goal.returns-clause-delegated
returns-clause-delegated c = λ m n a t e. (found_above (is_delegated_for m n t) n a e).1

pub returns-clause-longest : goal.returns-clause-longest
returns-clause-longest c = λ m n a b t e w h. found_longest (is_delegated_for m n t) n a e b w h

pub returns-clause-none : goal.returns-clause-none
returns-clause-none c = λ m n b t e w. none_found (is_delegated_for m n t) n e b w
