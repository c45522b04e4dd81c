use Rattle.std.proofs.Common.{◌<◌, [], length}
use Rattle.zone_database.specs.Databases.{zones_in}
use Rattle.keyed_frames.specs.Serving.{ServesOn}
use Rattle.keyed_frames.proofs.serving.serve_in_chunks.Given as goal

abbrev pub invariant-loop : goal.invariant-loop
invariant-loop g l = record {
  served : ServesOn l.access (zones_in l.database) l.mode [] l.waiting.items (g.R.Read.remaining l.initial.input) (g.R.Read.remaining l.input)
      (g.W.Write.contents l.initial.output) (g.W.Write.contents l.output);
  room : 0 < length l.chunk;
}
