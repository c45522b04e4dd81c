use Rattle.std.proofs.Common.{sym}
use Rattle.zone_server.proofs.FrameLaws.{frame_less}
use Rattle.zone_server.proofs.WrittenFronts.{on_err}
use Rattle.zone_database.specs.Databases.{zones_in}
use Rattle.zone_server.specs.Frames.{framed_of}
use Rattle.keyed_frames.specs.Stopping.{StopsWithin}
use Rattle.keyed_frames.proofs.ServedFrames.{frame_taken, none_taken_yet}
use Rattle.keyed_frames.proofs.StoppedFrames.{frame_stops}
use Rattle.keyed_frames.proofs.serving.answer_frames.Goals as goal

pub loop-frame-preserved : goal.loop-frame-preserved
loop-frame-preserved g c =
    frame_taken c.args.access.now (zones_in c.args.database.now) c.args.mode c.args.octets.now c.loop-frame.rest.now (g.W.Write.contents c.args.output.now) (g.W.Write.contents c.loop-frame.output)
    (g.W.Write.contents c.answer_keyed_frame.new.output) (framed_of c.in-Some.frame) c.in-Some.behind.now c.loop-frame.invariant (sym c.in-Some.ensures) c.in_ok-answer_keyed_frame.ensures.answered

pub loop-frame-init : goal.loop-frame-init
loop-frame-init g c = none_taken_yet c.args.access.now (zones_in c.args.database.now) c.args.mode c.args.octets.now (g.W.Write.contents c.args.output.now)

pub loop-frame-smaller : goal.loop-frame-smaller
loop-frame-smaller g c = frame_less c.args.mode c.loop-frame.rest.now (framed_of c.in-Some.frame, c.in-Some.behind.now) (sym c.in-Some.ensures)

pub returns-in_err-answer_keyed_frame-clause-stopped : goal.returns-in_err-answer_keyed_frame-clause-stopped
returns-in_err-answer_keyed_frame-clause-stopped g c =
    let zs = zones_in c.args.database.now in
    let h = g.W.Write.contents c.args.output.now in
    let l = g.W.Write.contents c.answer_keyed_frame.new.output in
    on_err c.from_residual.result (StopsWithin c.args.access.now zs c.args.mode c.args.octets.now h l)
    (frame_stops c.args.access.now zs c.args.mode c.args.octets.now c.loop-frame.rest.now h (g.W.Write.contents c.loop-frame.output) l (framed_of c.in-Some.frame) c.in-Some.behind.now
    c.loop-frame.invariant (sym c.in-Some.ensures) c.in_err-answer_keyed_frame.ensures.stopped)
