use Rattle.zone_keeping.proofs.SameDenials.{same_nsec, same_nsec3}
use Rattle.zone_keeping.proofs.laws.denials_follow_names.Goals as goal

pub returns-clause-nsec : goal.returns-clause-nsec
returns-clause-nsec c origin m other ttl serial h n t = same_nsec m other h origin ttl serial n t

pub returns-clause-nsec3 : goal.returns-clause-nsec3
returns-clause-nsec3 c origin m other hash parameters ttl serial h o = same_nsec3 m other h origin hash parameters ttl serial o
