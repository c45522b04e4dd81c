use Rattle.message_cookies.specs.SipHash.{compressed}
use Rattle.message_cookies.proofs.sip_hash.compressed.Goals as goal

pub returns : goal.returns
unfolding compressed
returns c = simp (c.sip_round-after.ensures, c.sip_round.ensures)
