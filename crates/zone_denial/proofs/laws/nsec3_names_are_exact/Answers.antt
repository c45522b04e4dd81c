use Rattle.zone_denial.proofs.Hashed.Nsec3NameLaws.{names_are_exact, names_ascend}
use Rattle.zone_denial.proofs.laws.nsec3_names_are_exact.Goals as goal

pub returns-clause-ascending : goal.returns-clause-ascending
returns-clause-ascending c = names_ascend

pub returns-clause-names : goal.returns-clause-names
returns-clause-names c = names_are_exact
