use Rattle.std.proofs.Common.{arith}
use Rattle.std.proofs.lemmas.Grind.{common_steps}
use Rattle.zone_proto.proofs.Ordering.Base32Facts.{next_character}
use Rattle.zone_proto.proofs.base32.Base32TextDisplay.fmt.Goals as goal

pub loop-i-preserved : goal.loop-i-preserved
loop-i-preserved g c =
    let more = next_character c.args.self.now.0.now c.loop-i.i c.five_bits.result c.five_bits.ensures.value c.five_bits.ensures.small in
    grind (arith, common_steps)
