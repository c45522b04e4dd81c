use Rattle.zone_denial.proofs.Chains.Circles.{nsec_circle_is_chain, nsec3_circle_is_chain, nsec_circle_stays, nsec3_circle_stays}
use Rattle.zone_denial.proofs.laws.circles_are_chains.Goals as goal

pub returns-clause-nsec : goal.returns-clause-nsec
returns-clause-nsec c = nsec_circle_is_chain

pub returns-clause-nsec3 : goal.returns-clause-nsec3
returns-clause-nsec3 c = nsec3_circle_is_chain

pub returns-clause-nsec_sets : goal.returns-clause-nsec_sets
returns-clause-nsec_sets c = nsec_circle_stays

pub returns-clause-nsec3_sets : goal.returns-clause-nsec3_sets
returns-clause-nsec3_sets c = nsec3_circle_stays
