use Rattle.zone_tokens.proofs.Base32Facts.{octet_value}
use Rattle.zone_tokens.proofs.base32.octet_at.Goals as goal

pub returns : goal.returns
returns c = octet_value c.args.word.now c.args.k c.five_bits_at.result c.five_bits_at-2.result c.five_bits_at-3.result c.five_bits_at.ensures.value c.five_bits_at-2.ensures.value c.five_bits_at-3.ensures.value
