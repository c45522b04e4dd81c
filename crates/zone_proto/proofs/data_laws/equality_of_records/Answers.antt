use Rattle.zone_proto.specs.DataEquality.{same_record_equiv}
use Rattle.zone_proto.proofs.data_laws.equality_of_records.Goals as goal

pub returns : goal.returns
returns c = same_record_equiv
