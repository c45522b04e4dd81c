use Rattle.denial_laws.proofs.CircleLaws.{denial_summed_up}
use Rattle.denial_laws.proofs.Nsec3CircleLaws.{nsec3_denial_summed_up, nsec3_wildcard_summed_up, nsec3_parameters_found}
use Rattle.denial_laws.proofs.laws.denials_are_summed_up.Goals as goal

pub returns-clause-nsec : goal.returns-clause-nsec
returns-clause-nsec c = denial_summed_up

pub returns-clause-nsec3 : goal.returns-clause-nsec3
returns-clause-nsec3 c = nsec3_denial_summed_up

pub returns-clause-wildcard : goal.returns-clause-wildcard
returns-clause-wildcard c = nsec3_wildcard_summed_up

pub returns-clause-parameters : goal.returns-clause-parameters
returns-clause-parameters c = nsec3_parameters_found
