use Rattle.zone_proto.proofs.Names.NameTree.{above_is_less}
use Rattle.zone_proto.proofs.laws.ancestor_is_first.Goals as goal

pub returns : goal.returns
returns c = above_is_less
