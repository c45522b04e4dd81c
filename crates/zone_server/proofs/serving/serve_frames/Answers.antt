use Rattle.zone_server.specs.Serving.{served_of}
use Rattle.zone_server.specs.Stopping.{BreaksOff}
use Rattle.zone_server.proofs.StoppedFrames.{nothing_breaks}
use Rattle.zone_server.proofs.WrittenFronts.{on_err}
use Rattle.zone_server.proofs.serving.serve_frames.Goals as goal

pub returns-in_err-chunk-clause-broken_off : goal.returns-in_err-chunk-clause-broken_off
returns-in_err-chunk-clause-broken_off g c =
    let s = served_of {S = g.row.S.Denot} {H = g.row.H.Denot} g.S.Signer.signature_of g.H.Nsec3Hash.digest_of c.args.server.now in
    let r = g.R.Read.remaining c.args.input.now in
    let h = g.W.Write.contents c.args.output.now in
    on_err c.from_residual.result (BreaksOff s c.args.mode r r h h) (nothing_breaks s c.args.mode r h)
