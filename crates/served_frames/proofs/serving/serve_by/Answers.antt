use Rattle.zone_server.proofs.WrittenFronts.{on_err}
use Rattle.served_frames.specs.Stopping.{BreaksOff}
use Rattle.served_frames.proofs.Stopped.{nothing_breaks}
use Rattle.served_frames.proofs.serving.serve_by.Goals as goal

pub returns-in_err-chunk-clause-broken_off : goal.returns-in_err-chunk-clause-broken_off
returns-in_err-chunk-clause-broken_off g c =
    let r = g.R.Read.remaining c.args.input.now in
    let h = g.W.Write.contents c.args.output.now in
    on_err c.from_residual.result (BreaksOff g.A.Answerer.answers g.A.Answerer.begins c.args.answerer.now c.args.mode r r h h c.args.answerer.now)
    (nothing_breaks g.A.Answerer.answers g.A.Answerer.begins c.args.answerer.now c.args.mode r h)
