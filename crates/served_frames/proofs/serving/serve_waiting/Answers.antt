use Rattle.std.proofs.Common.{◌≡◌, ℕ, List, length, sym, ap, subst, arith}
use Rattle.std.specs.Prelude.{None}
use Rattle.zone_server.specs.Frames.{frame_of}
use Rattle.zone_server.proofs.ServedFrames.{kept_whole}
use Rattle.zone_server.proofs.WrittenFronts.{on_err}
use Rattle.served_frames.specs.Stopping.{StopsWithin}
use Rattle.served_frames.proofs.Served.{waiting_served}
use Rattle.served_frames.proofs.Stopped.{slice_stops, taken_slice_stops}
use Rattle.served_frames.proofs.serving.serve_waiting.Goals as goal

pub returns-else-left-len-clause-taken : goal.returns-else-left-len-clause-taken
returns-else-left-len-clause-taken g c =
    waiting_served g.A.Answerer.answers c.args.answerer.now c.answer_frames.new.answerer c.args.mode c.args.waiting.now.items c.as_slice.result.now c.in_ok-left.left.now c.args.waiting.now.items
    (g.W.Write.contents c.args.output.now) (g.W.Write.contents c.answer_frames.new.output) c.as_slice.ensures.value
    (kept_whole c.args.mode c.args.waiting.now.items c.as_slice.result.now c.in_ok-left.ensures.taken.frames c.in_ok-left.left.now c.as_slice.ensures.value c.in_ok-left.ensures.taken.stand
    (omega (arith, c.if-left-len.false, c.len.ensures, c.as_slice.ensures.len, ap length c.as_slice.ensures.value)))
    c.in_ok-left.ensures.taken

pub returns-else-left-len-clause-no_more : goal.returns-else-left-len-clause-no_more
returns-else-left-len-clause-no_more g c =
    subst (λ (l : List ℕ). frame_of c.args.mode l ≡ None)
    (sym (kept_whole c.args.mode c.args.waiting.now.items c.as_slice.result.now c.in_ok-left.ensures.taken.frames c.in_ok-left.left.now c.as_slice.ensures.value c.in_ok-left.ensures.taken.stand
    (omega (arith, c.if-left-len.false, c.len.ensures, c.as_slice.ensures.len, ap length c.as_slice.ensures.value))))
    c.in_ok-left.ensures.no_more

pub returns-in_err-left-clause-stopped : goal.returns-in_err-left-clause-stopped
returns-in_err-left-clause-stopped g c =
    let h = g.W.Write.contents c.args.output.now in
    let k = g.W.Write.contents c.answer_frames.new.output in
    on_err c.from_residual.result (StopsWithin g.A.Answerer.answers g.A.Answerer.begins c.args.answerer.now c.args.mode c.args.waiting.now.items h k c.answer_frames.new.answerer)
    (slice_stops g.A.Answerer.answers g.A.Answerer.begins c.args.answerer.now c.answer_frames.new.answerer c.args.mode c.args.waiting.now.items c.as_slice.result.now h k c.as_slice.ensures.value
    c.in_err-left.ensures.stopped)

pub returns-in_err-left-2-clause-stopped : goal.returns-in_err-left-2-clause-stopped
returns-in_err-left-2-clause-stopped g c =
    let h = g.W.Write.contents c.args.output.now in
    let k = g.W.Write.contents c.answer_frames.new.output in
    on_err c.from_residual-in_err-left-2.result
    (StopsWithin g.A.Answerer.answers g.A.Answerer.begins c.args.answerer.now c.args.mode c.args.waiting.now.items h k c.answer_frames.new.answerer)
    (taken_slice_stops g.A.Answerer.answers g.A.Answerer.begins c.args.answerer.now c.answer_frames.new.answerer c.args.mode c.args.waiting.now.items c.as_slice.result.now c.in_ok-left.left.now h k
    c.as_slice.ensures.value c.in_ok-left.ensures.taken)
