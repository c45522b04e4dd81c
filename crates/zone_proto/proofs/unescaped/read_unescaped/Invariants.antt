use Rattle.std.proofs.Common.{length}
use Rattle.zone_proto.specs.Octets.{written}
use Rattle.zone_proto.proofs.Texts.UnescapedTexts.{IsReadUpTo}
use Rattle.zone_proto.proofs.unescaped.read_unescaped.Given as goal

abbrev pub invariant-loop-front : goal.invariant-loop-front
invariant-loop-front l = IsReadUpTo l.text l.rest (written l.octets)

abbrev pub decreases-loop-front : goal.decreases-loop-front
decreases-loop-front l = length l.rest
