use Rattle.zone_server.specs.Serving.{Moves}
use Rattle.keyed_frames.proofs.sending.write_whole.Given as goal

-- of the octets the rest is left
abbrev pub invariant-loop : goal.invariant-loop
invariant-loop g l = Moves l.fn.octets (g.W.Write.contents l.fn.output) (g.W.Write.contents l.output) l.rest
