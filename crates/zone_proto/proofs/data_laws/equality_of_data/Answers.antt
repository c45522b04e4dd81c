use Rattle.zone_proto.specs.DataEquality.{same_data_equiv}
use Rattle.zone_proto.proofs.data_laws.equality_of_data.Goals as goal

pub returns : goal.returns
returns c = same_data_equiv
