use Rattle.std.proofs.Common.{sym}
use Rattle.zone_server.proofs.FrameLaws.{frame_less}
use Rattle.zone_server.proofs.WrittenFronts.{on_err}
use Rattle.zone_server.specs.Frames.{framed_of}
use Rattle.served_frames.specs.Stopping.{StopsWithin}
use Rattle.served_frames.proofs.Served.{frame_taken, none_taken_yet}
use Rattle.served_frames.proofs.Stopped.{frame_stops}
use Rattle.served_frames.proofs.serving.answer_frames.Goals as goal

pub loop-frame-preserved : goal.loop-frame-preserved
loop-frame-preserved g c =
    frame_taken g.A.Answerer.answers c.args.answerer.now c.loop-frame.answerer c.answer.new.self c.args.mode c.args.octets.now c.loop-frame.rest.now
    (g.W.Write.contents c.args.output.now) (g.W.Write.contents c.loop-frame.output)
    (g.W.Write.contents c.answer.new.output) (framed_of c.in-Some.frame) c.in-Some.behind.now c.loop-frame.invariant (sym c.in-Some.ensures) c.in_ok-answer.ensures.answered

pub loop-frame-init : goal.loop-frame-init
loop-frame-init g c = none_taken_yet g.A.Answerer.answers c.args.answerer.now c.args.mode c.args.octets.now (g.W.Write.contents c.args.output.now)

pub loop-frame-smaller : goal.loop-frame-smaller
loop-frame-smaller g c = frame_less c.args.mode c.loop-frame.rest.now (framed_of c.in-Some.frame, c.in-Some.behind.now) (sym c.in-Some.ensures)

pub returns-in_err-answer-clause-stopped : goal.returns-in_err-answer-clause-stopped
returns-in_err-answer-clause-stopped g c =
    let h = g.W.Write.contents c.args.output.now in
    let l = g.W.Write.contents c.answer.new.output in
    on_err c.from_residual.result (StopsWithin g.A.Answerer.answers g.A.Answerer.begins c.args.answerer.now c.args.mode c.args.octets.now h l c.answer.new.self)
    (frame_stops g.A.Answerer.answers g.A.Answerer.begins c.args.answerer.now c.loop-frame.answerer c.answer.new.self c.args.mode c.args.octets.now c.loop-frame.rest.now h
    (g.W.Write.contents c.loop-frame.output) l (framed_of c.in-Some.frame) c.in-Some.behind.now
    c.loop-frame.invariant (sym c.in-Some.ensures) c.in_err-answer.ensures.stopped)
