use Rattle.std.proofs.Common.{sym}
use Rattle.zone_server.specs.Frames.{framed_of}
use Rattle.zone_server.specs.Serving.{served_of}
use Rattle.zone_server.specs.Stopping.{StopsWithin}
use Rattle.zone_server.proofs.FrameLaws.{frame_less}
use Rattle.zone_server.proofs.ServedFrames.{frame_taken, none_taken_yet}
use Rattle.zone_server.proofs.StoppedFrames.{frame_stops}
use Rattle.zone_server.proofs.WrittenFronts.{on_err}
use Rattle.zone_server.proofs.serving.answer_frames.Goals as goal

pub loop-frame-preserved : goal.loop-frame-preserved
loop-frame-preserved g c =
    frame_taken (served_of {S = g.row.S.Denot} {H = g.row.H.Denot} g.S.Signer.signature_of g.H.Nsec3Hash.digest_of c.args.server.now) c.args.mode c.args.octets.now c.loop-frame.rest.now c.args.answers.now.items c.loop-frame.answers.items
    (g.W.Write.contents c.args.output.now) (g.W.Write.contents c.loop-frame.output) (framed_of c.in-Some.frame) c.in-Some.behind.now c.answer_frame.new.answers.items
    (g.W.Write.contents c.answer_frame.new.output) c.loop-frame.invariant (sym c.in-Some.ensures) c.in_ok-answer_frame.ensures.put

pub loop-frame-init : goal.loop-frame-init
loop-frame-init g c =
    none_taken_yet (served_of {S = g.row.S.Denot} {H = g.row.H.Denot} g.S.Signer.signature_of g.H.Nsec3Hash.digest_of c.args.server.now) c.args.mode c.args.octets.now c.args.answers.now.items
    (g.W.Write.contents c.args.output.now)

pub loop-frame-smaller : goal.loop-frame-smaller
loop-frame-smaller g c = frame_less c.args.mode c.loop-frame.rest.now (framed_of c.in-Some.frame, c.in-Some.behind.now) (sym c.in-Some.ensures)

pub returns-in_err-answer_frame-clause-stopped : goal.returns-in_err-answer_frame-clause-stopped
returns-in_err-answer_frame-clause-stopped g c =
    let s = served_of {S = g.row.S.Denot} {H = g.row.H.Denot} g.S.Signer.signature_of g.H.Nsec3Hash.digest_of c.args.server.now in
    let a = c.args.answers.now.items in
    let h = g.W.Write.contents c.args.output.now in
    let l = g.W.Write.contents c.answer_frame.new.output in
    on_err c.from_residual.result (StopsWithin s c.args.mode c.args.octets.now a h l)
    (frame_stops s c.args.mode c.args.octets.now c.loop-frame.rest.now a c.loop-frame.answers.items h (g.W.Write.contents c.loop-frame.output) l
    (framed_of c.in-Some.frame) c.in-Some.behind.now c.loop-frame.invariant (sym c.in-Some.ensures) c.in_err-answer_frame.ensures.stopped)
