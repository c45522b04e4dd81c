use Rattle.zone_proto.proofs.SetLaws.{new_stands_last}
use Rattle.zone_proto.proofs.data_laws.new_data_stand_last.Goals as goal

pub returns : goal.returns
returns c = λ s r serial many absent. new_stands_last s r.rdata r serial many absent
