use Rattle.zone_denial.proofs.Hashed.Nsec3TypeLaws.{types_are_exact, types_ascend}
use Rattle.zone_denial.proofs.laws.nsec3_type_lists_are_exact.Goals as goal

pub returns-clause-ascending : goal.returns-clause-ascending
returns-clause-ascending c = types_ascend

pub returns-clause-types : goal.returns-clause-types
returns-clause-types c = types_are_exact
