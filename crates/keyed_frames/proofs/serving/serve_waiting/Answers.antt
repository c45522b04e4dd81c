use Rattle.std.proofs.Common.{◌≡◌, ℕ, List, length, sym, ap, subst, arith}
use Rattle.std.specs.Prelude.{None}
use Rattle.zone_server.specs.Frames.{frame_of}
use Rattle.zone_server.proofs.ServedFrames.{kept_whole}
use Rattle.zone_server.proofs.WrittenFronts.{on_err}
use Rattle.zone_database.specs.Databases.{zones_in}
use Rattle.keyed_frames.specs.Stopping.{StopsWithin}
use Rattle.keyed_frames.proofs.ServedFrames.{waiting_served}
use Rattle.keyed_frames.proofs.StoppedFrames.{slice_stops, taken_slice_stops}
use Rattle.keyed_frames.proofs.serving.serve_waiting.Goals as goal

pub returns-else-left-len-clause-taken : goal.returns-else-left-len-clause-taken
returns-else-left-len-clause-taken g c =
    waiting_served c.args.access.now (zones_in c.args.database.now) c.args.mode c.args.waiting.now.items c.as_slice.result.now c.in_ok-left.left.now c.args.waiting.now.items
    (g.W.Write.contents c.args.output.now) (g.W.Write.contents c.answer_frames.new.output) c.as_slice.ensures.value
    (kept_whole c.args.mode c.args.waiting.now.items c.as_slice.result.now c.in_ok-left.ensures.taken.frames c.in_ok-left.left.now c.as_slice.ensures.value c.in_ok-left.ensures.taken.stand
    (omega (arith, c.if-left-len.false, c.len.ensures, c.as_slice.ensures.len, ap length c.as_slice.ensures.value)))
    c.in_ok-left.ensures.taken

pub returns-else-left-len-clause-no_more : goal.returns-else-left-len-clause-no_more
returns-else-left-len-clause-no_more g c =
    subst (λ (l : List ℕ). frame_of c.args.mode l ≡ None)
    (sym (kept_whole c.args.mode c.args.waiting.now.items c.as_slice.result.now c.in_ok-left.ensures.taken.frames c.in_ok-left.left.now c.as_slice.ensures.value c.in_ok-left.ensures.taken.stand
    (omega (arith, c.if-left-len.false, c.len.ensures, c.as_slice.ensures.len, ap length c.as_slice.ensures.value))))
    c.in_ok-left.ensures.no_more

pub returns-in_err-left-clause-stopped : goal.returns-in_err-left-clause-stopped
returns-in_err-left-clause-stopped g c =
    let zs = zones_in c.args.database.now in
    let h = g.W.Write.contents c.args.output.now in
    let k = g.W.Write.contents c.answer_frames.new.output in
    on_err c.from_residual.result (StopsWithin c.args.access.now zs c.args.mode c.args.waiting.now.items h k)
    (slice_stops c.args.access.now zs c.args.mode c.args.waiting.now.items c.as_slice.result.now h k c.as_slice.ensures.value c.in_err-left.ensures.stopped)

pub returns-in_err-left-2-clause-stopped : goal.returns-in_err-left-2-clause-stopped
returns-in_err-left-2-clause-stopped g c =
    let zs = zones_in c.args.database.now in
    let h = g.W.Write.contents c.args.output.now in
    let k = g.W.Write.contents c.answer_frames.new.output in
    on_err c.from_residual-in_err-left-2.result (StopsWithin c.args.access.now zs c.args.mode c.args.waiting.now.items h k)
    (taken_slice_stops c.args.access.now zs c.args.mode c.args.waiting.now.items c.as_slice.result.now c.in_ok-left.left.now h k c.as_slice.ensures.value c.in_ok-left.ensures.taken)
