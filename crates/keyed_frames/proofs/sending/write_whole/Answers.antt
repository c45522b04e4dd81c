use Rattle.std.proofs.Common.{List, ℕ, sym, ap, subst}
use Rattle.zone_server.specs.Serving.{Moves}
use Rattle.zone_server.proofs.WrittenFronts.{more_moved, moved_kept}
use Rattle.keyed_frames.proofs.sending.write_whole.Goals as goal
use Rattle.keyed_frames.proofs.sending.write_whole.Goals.{in-Ok, in-Err+else-ne}

pub loop-preserved : goal.loop-preserved
loop-preserved g c =
    let a = c.args.octets.now in
    let b = c.loop.rest.now in
    let u = g.W.Write.contents c.args.output.now in
    let v = g.W.Write.contents c.loop.output in
    let w = g.W.Write.contents c.write.new.self in
    let P : List ℕ → Type 0 = λ left. Moves a u w left in
    elim c.match-write.branch [
      | in-Ok k ↦ subst P (sym (ap (λ r. r.now) k.rest-is)) (more_moved a b k.in-Ok.count u v w c.loop.invariant (k.in-Ok.ensures).bytes)
      | in-Err+else-ne k ↦ subst P (sym (ap (λ r. r.now) k.rest-is)) (moved_kept a b u v w c.loop.invariant (k.in-Err.ensures).bytes)
    ]
