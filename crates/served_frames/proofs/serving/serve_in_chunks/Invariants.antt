use Rattle.std.proofs.Common.{◌<◌, [], length}
use Rattle.served_frames.specs.Serving.{ServesOn}
use Rattle.served_frames.proofs.serving.serve_in_chunks.Given as goal

abbrev pub invariant-loop : goal.invariant-loop
invariant-loop g l = record {
  served : ServesOn g.A.Answerer.answers l.initial.answerer l.mode [] l.waiting.items (g.R.Read.remaining l.initial.input) (g.R.Read.remaining l.input)
      (g.W.Write.contents l.initial.output) (g.W.Write.contents l.output) l.answerer;
  room : 0 < length l.chunk;
}
