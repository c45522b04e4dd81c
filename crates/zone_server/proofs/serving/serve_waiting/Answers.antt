use Rattle.std.proofs.Common.{◌≡◌, ℕ, List, [], length, sym, ap, subst, ◌∙◌, arith}
use Rattle.std.specs.Prelude.{None, Vec}
use Rattle.std.specs.declared.alloc.Global.{Global}
use Rattle.zone_server.specs.Frames.{frame_of}
use Rattle.zone_server.specs.Serving.{served_of}
use Rattle.zone_server.specs.Stopping.{StopsWithin}
use Rattle.zone_server.proofs.ServedFrames.{kept_whole, waiting_served}
use Rattle.zone_server.proofs.StoppedFrames.{taken_waiting_stops, waiting_stops}
use Rattle.zone_server.proofs.WrittenFronts.{none_front, on_err}
use Rattle.zone_server.proofs.serving.serve_waiting.Goals as goal
use Rattle.zone_server.proofs.serving.serve_waiting.Goals.{then-left-len+in_ok-left-2, else-left-len}

pub returns-clause-taken : goal.returns-clause-taken
returns-clause-taken g c =
    let items : Vec ℕ Global → List ℕ = λ v. v.items in
    let kept : c.if-left-len.waiting.items ≡ c.in_ok-left.left.now =
    elim c.if-left-len.branch [
      | then-left-len+in_ok-left-2 w ↦ ap items w.waiting-is ∙ w.in_ok-left-2.ensures.items
      | else-left-len w ↦ ap items w.waiting-is
          ∙ kept_whole c.args.mode c.args.waiting.now.items c.as_slice.result.now c.in_ok-left.ensures.taken.frames c.in_ok-left.left.now c.as_slice.ensures.value c.in_ok-left.ensures.taken.stand
          (omega (arith, w.if-left-len.false, c.len.ensures, c.as_slice.ensures.len, ap length c.as_slice.ensures.value))
    ] in
    waiting_served (served_of {S = g.row.S.Denot} {H = g.row.H.Denot} g.S.Signer.signature_of g.H.Nsec3Hash.digest_of c.args.server.now) c.args.mode c.args.waiting.now.items c.as_slice.result.now c.in_ok-left.left.now c.if-left-len.waiting.items
    c.args.answers.now.items c.answer_frames.new.answers.items (g.W.Write.contents c.args.output.now) (g.W.Write.contents c.answer_frames.new.output) (g.W.Write.contents c.write_out.new.output)
    c.as_slice.ensures.value c.requires kept c.in_ok-left.ensures.taken c.in_ok-write_out.ensures.written

pub returns-clause-no_more : goal.returns-clause-no_more
returns-clause-no_more g c =
    let items : Vec ℕ Global → List ℕ = λ v. v.items in
    let kept : c.if-left-len.waiting.items ≡ c.in_ok-left.left.now =
    elim c.if-left-len.branch [
      | then-left-len+in_ok-left-2 w ↦ ap items w.waiting-is ∙ w.in_ok-left-2.ensures.items
      | else-left-len w ↦ ap items w.waiting-is
          ∙ kept_whole c.args.mode c.args.waiting.now.items c.as_slice.result.now c.in_ok-left.ensures.taken.frames c.in_ok-left.left.now c.as_slice.ensures.value c.in_ok-left.ensures.taken.stand
          (omega (arith, w.if-left-len.false, c.len.ensures, c.as_slice.ensures.len, ap length c.as_slice.ensures.value))
    ] in
    subst (λ (l : List ℕ). frame_of c.args.mode l ≡ None) (sym kept) c.in_ok-left.ensures.no_more

pub returns-in_err-left-clause-stopped : goal.returns-in_err-left-clause-stopped
returns-in_err-left-clause-stopped g c =
    let s = served_of {S = g.row.S.Denot} {H = g.row.H.Denot} g.S.Signer.signature_of g.H.Nsec3Hash.digest_of c.args.server.now in
    let octets = c.args.waiting.now.items in
    let h = g.W.Write.contents c.args.output.now in
    let k = g.W.Write.contents c.answer_frames.new.output in
    on_err c.from_residual.result (StopsWithin s c.args.mode octets [] h k)
    (waiting_stops s c.args.mode octets c.as_slice.result.now c.args.answers.now.items h k c.as_slice.ensures.value c.requires c.in_err-left.ensures.stopped)

pub returns-in_err-left-2-clause-stopped : goal.returns-in_err-left-2-clause-stopped
returns-in_err-left-2-clause-stopped g c =
    let s = served_of {S = g.row.S.Denot} {H = g.row.H.Denot} g.S.Signer.signature_of g.H.Nsec3Hash.digest_of c.args.server.now in
    let octets = c.args.waiting.now.items in
    let waiting = c.answer_frames.new.answers.items in
    let h = g.W.Write.contents c.args.output.now in
    let k = g.W.Write.contents c.answer_frames.new.output in
    on_err c.from_residual-in_err-left-2.result (StopsWithin s c.args.mode octets [] h k)
    (taken_waiting_stops s c.args.mode octets c.as_slice.result.now c.in_ok-left.left.now c.args.answers.now.items waiting h k k c.as_slice.ensures.value c.requires
    c.in_ok-left.ensures.taken (none_front waiting k))

pub returns-in_err-write_out-clause-stopped : goal.returns-in_err-write_out-clause-stopped
returns-in_err-write_out-clause-stopped g c =
    let s = served_of {S = g.row.S.Denot} {H = g.row.H.Denot} g.S.Signer.signature_of g.H.Nsec3Hash.digest_of c.args.server.now in
    let octets = c.args.waiting.now.items in
    let waiting = c.answer_frames.new.answers.items in
    let h = g.W.Write.contents c.args.output.now in
    let k = g.W.Write.contents c.answer_frames.new.output in
    let l = g.W.Write.contents c.write_out.new.output in
    on_err c.from_residual-in_err-write_out.result (StopsWithin s c.args.mode octets [] h l)
    (taken_waiting_stops s c.args.mode octets c.as_slice.result.now c.in_ok-left.left.now c.args.answers.now.items waiting h k l c.as_slice.ensures.value c.requires
    c.in_ok-left.ensures.taken c.in_err-write_out.ensures.front)
