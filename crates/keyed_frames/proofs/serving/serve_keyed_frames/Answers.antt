use Rattle.zone_server.proofs.WrittenFronts.{on_err}
use Rattle.zone_database.specs.Databases.{zones_in}
use Rattle.keyed_frames.specs.Stopping.{BreaksOff}
use Rattle.keyed_frames.proofs.StoppedFrames.{nothing_breaks}
use Rattle.keyed_frames.proofs.serving.serve_keyed_frames.Goals as goal

pub returns-in_err-chunk-clause-broken_off : goal.returns-in_err-chunk-clause-broken_off
returns-in_err-chunk-clause-broken_off g c =
    let zs = zones_in c.args.database.now in
    let r = g.R.Read.remaining c.args.input.now in
    let h = g.W.Write.contents c.args.output.now in
    on_err c.from_residual.result (BreaksOff c.args.access.now zs c.args.mode r r h h) (nothing_breaks c.args.access.now zs c.args.mode r h)
