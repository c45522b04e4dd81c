use Rattle.std.proofs.Common.{◌∙◌}
use Rattle.message_cookies.specs.SipHash.{word_at}
use Rattle.message_cookies.proofs.sip_hash.word.Goals as goal

pub returns : goal.returns
unfolding word_at
returns c = c.from_le_bytes.ensures ∙ simp (
  c.octet.ensures,
  c.octet-2.ensures,
  c.octet-3.ensures,
  c.octet-4.ensures,
  c.octet-5.ensures,
  c.octet-6.ensures,
  c.octet-7.ensures,
  c.octet-8.ensures,
)
