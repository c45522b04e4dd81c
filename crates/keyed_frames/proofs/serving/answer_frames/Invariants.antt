use Rattle.std.proofs.Common.{length}
use Rattle.zone_database.specs.Databases.{zones_in}
use Rattle.keyed_frames.specs.Serving.{TakesFrames}
use Rattle.keyed_frames.proofs.serving.answer_frames.Given as goal

-- the frames before the rest were answered
abbrev pub invariant-loop-frame : goal.invariant-loop-frame
invariant-loop-frame g l =
    TakesFrames l.access (zones_in l.database) l.mode l.fn.octets l.rest (g.W.Write.contents l.fn.output) (g.W.Write.contents l.output)

abbrev pub decreases-loop-frame : goal.decreases-loop-frame
decreases-loop-frame g l = length l.rest
