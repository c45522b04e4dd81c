use Rattle.zone_proto.specs.SetEquality.{same_set_equiv}
use Rattle.zone_proto.proofs.data_laws.equality_of_sets.Goals as goal

pub returns : goal.returns
returns c = same_set_equiv
