use Rattle.keyed_frames.proofs.Sent.{SentSoFar}
use Rattle.keyed_frames.proofs.sending.send_zone.Given as goal

-- the messages so far were written
abbrev pub invariant-loop : goal.invariant-loop
invariant-loop g l = SentSoFar l.fn.transfer l.transfer (g.W.Write.contents l.fn.output) (g.W.Write.contents l.output)
