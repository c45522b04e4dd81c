use Rattle.hashed_changes.proofs.Local.{types_are_local}
use Rattle.hashed_changes.proofs.Names.{names_are_local}
use Rattle.hashed_changes.proofs.laws.names_are_local.Goals as goal

pub returns-clause-names : goal.returns-clause-names
returns-clause-names c = names_are_local

pub returns-clause-types : goal.returns-clause-types
returns-clause-types c = types_are_local
