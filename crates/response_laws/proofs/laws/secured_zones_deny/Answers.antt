use Rattle.response_laws.proofs.SecuredZones.{nsec_zones_deny, nsec3_zones_deny}
use Rattle.response_laws.proofs.laws.secured_zones_deny.Goals as goal

pub returns-clause-nsec : goal.returns-clause-nsec
returns-clause-nsec c = nsec_zones_deny

pub returns-clause-nsec3 : goal.returns-clause-nsec3
returns-clause-nsec3 c = nsec3_zones_deny
