use Rattle.zone_denial.proofs.Chains.ChainSets.{is_zone, sets_are, one_kind}
use Rattle.zone_denial.proofs.laws.chain_sets_are_exact.Goals as goal

pub returns-clause-zone : goal.returns-clause-zone
returns-clause-zone c = λ chain m zone. is_zone chain m zone

pub returns-clause-sets : goal.returns-clause-sets
returns-clause-sets c = λ chain m zone. sets_are chain m zone

pub returns-clause-kind : goal.returns-clause-kind
returns-clause-kind c = one_kind
