use Rattle.message_cookies.specs.SipHash.{finalized}
use Rattle.message_cookies.proofs.sip_hash.finalized.Goals as goal

pub returns : goal.returns
unfolding finalized
returns c = simp (c.sip_round-after.ensures, c.sip_round-3.ensures, c.sip_round-2.ensures, c.sip_round.ensures)
