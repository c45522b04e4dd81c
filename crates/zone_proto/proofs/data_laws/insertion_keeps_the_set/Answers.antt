use Rattle.zone_proto.proofs.SetLaws.{inserted_after, IsSet-inserted}
use Rattle.zone_proto.proofs.data_laws.insertion_keeps_the_set.Goals as goal

pub returns-clause-owner : goal.returns-clause-owner
returns-clause-owner c = λ s t r serial e. (inserted_after s r serial t e).owner

pub returns-clause-kind : goal.returns-clause-kind
returns-clause-kind c = λ s t r serial e. (inserted_after s r serial t e).record_type

pub returns-clause-some : goal.returns-clause-some
returns-clause-some c = λ s t r serial e. (inserted_after s r serial t e).some

pub returns-clause-rule : goal.returns-clause-rule
returns-clause-rule c = λ s t r serial o k i e. IsSet-inserted s r serial t o k i e
