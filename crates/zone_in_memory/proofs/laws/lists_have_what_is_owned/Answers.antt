use Rattle.zone_map.proofs.Lists.{contains_type, contained_type, contains_owner, contained_owner, contains_name, contained_name}
use Rattle.zone_in_memory.proofs.laws.lists_have_what_is_owned.Goals as goal

pub returns-clause-types : goal.returns-clause-types
returns-clause-types c = λ m n t. (contained_type m n t, contains_type m n t)

pub returns-clause-owners : goal.returns-clause-owners
returns-clause-owners c = λ m n t. (contained_owner m n t, contains_owner m n t)

pub returns-clause-names : goal.returns-clause-names
returns-clause-names c = λ m n. (contained_name m n, λ w. contains_name m n w.0 w.1)
