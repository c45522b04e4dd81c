use Rattle.std.proofs.Common.{◌≡◌, ◌++◌, ℕ, List, take, subst, arith}
use Rattle.std.proofs.KnownBytes.{Keeps-refl}
use Rattle.zone_server.proofs.WrittenFronts.{on_err}
use Rattle.served_frames.specs.Serving.{TakesFrames}
use Rattle.served_frames.specs.Stopping.{BreaksOff, StopsWithin}
use Rattle.served_frames.proofs.Served.{served_on}
use Rattle.served_frames.proofs.Stopped.{read_breaks, read_then_breaks, then_breaks}
use Rattle.served_frames.proofs.serving.serve_in_chunks.Goals as goal

pub loop-preserved : goal.loop-preserved
loop-preserved g c =
    let k = g.W.Write.contents c.loop.output in
    let l = g.W.Write.contents c.serve_waiting.new.output in
    let read : List ℕ = take c.in-Ok.count c.read_some.new.buffer in
    let behind : c.extend_from_slice.new.self.items ≡ c.loop.waiting.items ++ read = c.in_ok-extend_from_slice.ensures.items in
    let P : List ℕ → Type 0 = λ o. TakesFrames g.A.Answerer.answers c.loop.answerer c.args.mode o c.serve_waiting.new.waiting.items k l c.serve_waiting.new.answerer in
    record {
      served = served_on g.A.Answerer.answers c.args.answerer.now c.loop.answerer c.serve_waiting.new.answerer c.args.mode c.loop.waiting.items (g.R.Read.remaining c.args.input.now)
          (g.R.Read.remaining c.loop.input) (g.W.Write.contents c.args.output.now)
          k read (g.R.Read.remaining c.read_some.new.input) l c.serve_waiting.new.waiting.items
          c.loop.invariant.served c.in-Ok.ensures.bytes.0 (subst P behind c.in_ok-serve_waiting.ensures.taken) c.in_ok-serve_waiting.ensures.no_more;
      room = omega arith;
    }

-- where it breaks off

pub returns-clause-broken_off : goal.returns-clause-broken_off
returns-clause-broken_off g c =
    let old = g.R.Read.remaining c.loop.input in
    read_breaks g.A.Answerer.answers g.A.Answerer.begins c.args.answerer.now c.loop.answerer c.args.mode c.loop.waiting.items (g.R.Read.remaining c.args.input.now) old old
    (g.W.Write.contents c.args.output.now) (g.W.Write.contents c.loop.output) c.loop.invariant.served (Keeps-refl old)

pub returns-in-Err-clause-broken_off : goal.returns-in-Err-clause-broken_off
returns-in-Err-clause-broken_off g c =
    read_breaks g.A.Answerer.answers g.A.Answerer.begins c.args.answerer.now c.loop.answerer c.args.mode c.loop.waiting.items (g.R.Read.remaining c.args.input.now) (g.R.Read.remaining c.loop.input)
    (g.R.Read.remaining c.read_some.new.input) (g.W.Write.contents c.args.output.now) (g.W.Write.contents c.loop.output) c.loop.invariant.served c.in-Err.ensures.bytes

pub returns-in_err-extend_from_slice-clause-broken_off : goal.returns-in_err-extend_from_slice-clause-broken_off
returns-in_err-extend_from_slice-clause-broken_off g c =
    let r = g.R.Read.remaining c.args.input.now in
    let h = g.W.Write.contents c.args.output.now in
    let k = g.W.Write.contents c.loop.output in
    let now = g.R.Read.remaining c.read_some.new.input in
    let read : List ℕ = take c.in-Ok.count c.read_some.new.buffer in
    on_err c.from_residual.result (BreaksOff g.A.Answerer.answers g.A.Answerer.begins c.args.answerer.now c.args.mode r now h k c.loop.answerer)
    (read_then_breaks g.A.Answerer.answers g.A.Answerer.begins c.args.answerer.now c.loop.answerer c.args.mode c.loop.waiting.items r (g.R.Read.remaining c.loop.input) h k read now
    c.loop.invariant.served c.in-Ok.ensures.bytes.0)

pub returns-in_err-serve_waiting-clause-broken_off : goal.returns-in_err-serve_waiting-clause-broken_off
returns-in_err-serve_waiting-clause-broken_off g c =
    let r = g.R.Read.remaining c.args.input.now in
    let h = g.W.Write.contents c.args.output.now in
    let k = g.W.Write.contents c.loop.output in
    let now = g.R.Read.remaining c.read_some.new.input in
    let l = g.W.Write.contents c.serve_waiting.new.output in
    let read : List ℕ = take c.in-Ok.count c.read_some.new.buffer in
    let behind : c.extend_from_slice.new.self.items ≡ c.loop.waiting.items ++ read = c.in_ok-extend_from_slice.ensures.items in
    on_err c.from_residual-in_err-serve_waiting.result
    (BreaksOff g.A.Answerer.answers g.A.Answerer.begins c.args.answerer.now c.args.mode r now h l c.serve_waiting.new.answerer)
    (then_breaks g.A.Answerer.answers g.A.Answerer.begins c.args.answerer.now c.loop.answerer c.serve_waiting.new.answerer c.args.mode c.loop.waiting.items r (g.R.Read.remaining c.loop.input) h k
    read now l c.loop.invariant.served c.in-Ok.ensures.bytes.0
    (subst (λ (o : List ℕ). StopsWithin g.A.Answerer.answers g.A.Answerer.begins c.loop.answerer c.args.mode o k l c.serve_waiting.new.answerer) behind c.in_err-serve_waiting.ensures.stopped))
