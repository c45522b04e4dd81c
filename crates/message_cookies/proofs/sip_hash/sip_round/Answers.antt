use Rattle.message_cookies.specs.SipHash.{sip_round}
use Rattle.message_cookies.proofs.sip_hash.sip_round.Goals as goal

pub returns : goal.returns
unfolding sip_round
returns c = simp (
  c.rotate_left-6.ensures,
  c.rotate_left-5.ensures,
  c.rotate_left-4.ensures,
  c.rotate_left-3.ensures,
  c.rotate_left-2.ensures,
  c.rotate_left.ensures,
)
