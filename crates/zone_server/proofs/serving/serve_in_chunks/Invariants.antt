use Rattle.std.proofs.Common.{◌≡◌, ◌<◌, [], length}
use Rattle.zone_server.specs.Serving.{served_of, ServesOn}
use Rattle.zone_server.proofs.serving.serve_in_chunks.Given as goal

abbrev pub invariant-loop : goal.invariant-loop
invariant-loop g l = record {
  served : ServesOn (served_of {S = g.row.S.Denot} {H = g.row.H.Denot} g.S.Signer.signature_of g.H.Nsec3Hash.digest_of l.server) l.mode [] l.waiting.items (g.R.Read.remaining l.initial.input) (g.R.Read.remaining l.input)
      (g.W.Write.contents l.initial.output) (g.W.Write.contents l.output);
  none_wait : l.answers.items ≡ [];
  room : 0 < length l.chunk;
}
