use Rattle.std.proofs.Common.{arith}
use Rattle.std.proofs.lemmas.Grind.{common_steps}
use Rattle.zone_tokens.proofs.Base32Facts.{next_octet}
use Rattle.zone_tokens.proofs.base32.octets_in.Goals as goal

pub loop-k-preserved : goal.loop-k-preserved
loop-k-preserved c =
    let more = next_octet c.args.word.now c.loop-k.k c.octet_at.result c.octet_at.ensures in
    grind (arith, common_steps)
