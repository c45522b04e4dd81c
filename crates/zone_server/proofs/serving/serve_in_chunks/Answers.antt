use Rattle.std.proofs.Common.{◌≡◌, ◌++◌, ℕ, List, [], take, subst, arith}
use Rattle.std.proofs.KnownBytes.{Keeps-refl}
use Rattle.zone_server.specs.Serving.{served_of, TakesFrames}
use Rattle.zone_server.specs.Stopping.{BreaksOff, StopsWithin}
use Rattle.zone_server.proofs.ServedFrames.{served_on}
use Rattle.zone_server.proofs.StoppedFrames.{read_breaks, read_then_breaks, then_breaks}
use Rattle.zone_server.proofs.WrittenFronts.{on_err}
use Rattle.zone_server.proofs.serving.serve_in_chunks.Goals as goal

pub loop-preserved : goal.loop-preserved
loop-preserved g c =
    let zs = served_of {S = g.row.S.Denot} {H = g.row.H.Denot} g.S.Signer.signature_of g.H.Nsec3Hash.digest_of c.args.server.now in
    let read : List ℕ = take c.in-Ok.count c.read_some.new.buffer in
    let behind : c.extend_from_slice.new.self.items ≡ c.loop.waiting.items ++ read = c.in_ok-extend_from_slice.ensures.items in
    let P : List ℕ → Type 0 = λ o. TakesFrames zs c.args.mode o c.serve_waiting.new.waiting.items [] [] (g.W.Write.contents c.loop.output) (g.W.Write.contents c.serve_waiting.new.output) in
    record {
      served = served_on zs c.args.mode c.loop.waiting.items (g.R.Read.remaining c.args.input.now) (g.R.Read.remaining c.loop.input) (g.W.Write.contents c.args.output.now)
          (g.W.Write.contents c.loop.output) read (g.R.Read.remaining c.read_some.new.input) (g.W.Write.contents c.serve_waiting.new.output) c.serve_waiting.new.waiting.items
          c.loop.invariant.served c.in-Ok.ensures.bytes.0 (subst P behind c.in_ok-serve_waiting.ensures.taken) c.in_ok-serve_waiting.ensures.no_more;
      none_wait = c.in_ok-serve_waiting.ensures.written;
      room = omega arith;
    }

-- where it breaks off

pub returns-clause-broken_off : goal.returns-clause-broken_off
returns-clause-broken_off g c =
    let s = served_of {S = g.row.S.Denot} {H = g.row.H.Denot} g.S.Signer.signature_of g.H.Nsec3Hash.digest_of c.args.server.now in
    let r = g.R.Read.remaining c.args.input.now in
    let old = g.R.Read.remaining c.loop.input in
    let h = g.W.Write.contents c.args.output.now in
    let k = g.W.Write.contents c.loop.output in
    read_breaks s c.args.mode c.loop.waiting.items r old old h k c.loop.invariant.served (Keeps-refl old)

pub returns-in-Err-clause-broken_off : goal.returns-in-Err-clause-broken_off
returns-in-Err-clause-broken_off g c =
    let s = served_of {S = g.row.S.Denot} {H = g.row.H.Denot} g.S.Signer.signature_of g.H.Nsec3Hash.digest_of c.args.server.now in
    let r = g.R.Read.remaining c.args.input.now in
    let old = g.R.Read.remaining c.loop.input in
    let h = g.W.Write.contents c.args.output.now in
    let k = g.W.Write.contents c.loop.output in
    read_breaks s c.args.mode c.loop.waiting.items r old (g.R.Read.remaining c.read_some.new.input) h k c.loop.invariant.served c.in-Err.ensures.bytes

pub returns-in_err-extend_from_slice-clause-broken_off : goal.returns-in_err-extend_from_slice-clause-broken_off
returns-in_err-extend_from_slice-clause-broken_off g c =
    let s = served_of {S = g.row.S.Denot} {H = g.row.H.Denot} g.S.Signer.signature_of g.H.Nsec3Hash.digest_of c.args.server.now in
    let r = g.R.Read.remaining c.args.input.now in
    let old = g.R.Read.remaining c.loop.input in
    let h = g.W.Write.contents c.args.output.now in
    let k = g.W.Write.contents c.loop.output in
    let now = g.R.Read.remaining c.read_some.new.input in
    let read : List ℕ = take c.in-Ok.count c.read_some.new.buffer in
    on_err c.from_residual.result (BreaksOff s c.args.mode r now h k)
    (read_then_breaks s c.args.mode c.loop.waiting.items r old h k read now c.loop.invariant.served c.in-Ok.ensures.bytes.0)

pub returns-in_err-serve_waiting-clause-broken_off : goal.returns-in_err-serve_waiting-clause-broken_off
returns-in_err-serve_waiting-clause-broken_off g c =
    let s = served_of {S = g.row.S.Denot} {H = g.row.H.Denot} g.S.Signer.signature_of g.H.Nsec3Hash.digest_of c.args.server.now in
    let r = g.R.Read.remaining c.args.input.now in
    let old = g.R.Read.remaining c.loop.input in
    let h = g.W.Write.contents c.args.output.now in
    let k = g.W.Write.contents c.loop.output in
    let now = g.R.Read.remaining c.read_some.new.input in
    let l = g.W.Write.contents c.serve_waiting.new.output in
    let read : List ℕ = take c.in-Ok.count c.read_some.new.buffer in
    let behind : c.extend_from_slice.new.self.items ≡ c.loop.waiting.items ++ read = c.in_ok-extend_from_slice.ensures.items in
    on_err c.from_residual-in_err-serve_waiting.result (BreaksOff s c.args.mode r now h l)
    (then_breaks s c.args.mode c.loop.waiting.items r old h k read now l c.loop.invariant.served c.in-Ok.ensures.bytes.0
    (subst (λ (o : List ℕ). StopsWithin s c.args.mode o [] k l) behind c.in_err-serve_waiting.ensures.stopped))
