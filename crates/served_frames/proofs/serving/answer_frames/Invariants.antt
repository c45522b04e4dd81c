use Rattle.std.proofs.Common.{length}
use Rattle.served_frames.specs.Serving.{TakesFrames}
use Rattle.served_frames.proofs.serving.answer_frames.Given as goal

-- the frames before the rest were answered
abbrev pub invariant-loop-frame : goal.invariant-loop-frame
invariant-loop-frame g l =
    TakesFrames g.A.Answerer.answers l.fn.answerer l.mode l.fn.octets l.rest (g.W.Write.contents l.fn.output) (g.W.Write.contents l.output) l.answerer

abbrev pub decreases-loop-frame : goal.decreases-loop-frame
decreases-loop-frame g l = length l.rest
