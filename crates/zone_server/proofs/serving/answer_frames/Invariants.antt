use Rattle.std.proofs.Common.{length}
use Rattle.zone_server.specs.Serving.{served_of, TakesFrames}
use Rattle.zone_server.proofs.serving.answer_frames.Given as goal

-- the frames before the rest were answered
abbrev pub invariant-loop-frame : goal.invariant-loop-frame
invariant-loop-frame g l =
    TakesFrames (served_of {S = g.row.S.Denot} {H = g.row.H.Denot} g.S.Signer.signature_of g.H.Nsec3Hash.digest_of l.server) l.mode l.fn.octets l.rest l.fn.answers.items l.answers.items
    (g.W.Write.contents l.fn.output) (g.W.Write.contents l.output)

abbrev pub decreases-loop-frame : goal.decreases-loop-frame
decreases-loop-frame g l = length l.rest
