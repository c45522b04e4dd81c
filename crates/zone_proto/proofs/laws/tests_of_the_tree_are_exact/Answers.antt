use Rattle.zone_proto.proofs.Names.NameTree.{at_or_above_test, above_test}
use Rattle.zone_proto.proofs.laws.tests_of_the_tree_are_exact.Goals as goal

pub returns : goal.returns
returns c = record { at_or_above = at_or_above_test; above = above_test }
