use Rattle.zone_proto.proofs.Names.NameTree.{between_descendants}
use Rattle.zone_proto.proofs.laws.descendants_are_together.Goals as goal

pub returns : goal.returns
returns c = between_descendants
