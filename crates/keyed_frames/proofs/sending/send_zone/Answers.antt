use Rattle.std.proofs.Common.{ℕ, List, subst, arith}
use Rattle.zone_server.specs.Frames.{framed}
use Rattle.zone_server.specs.Stopping.{MovesFront}
use Rattle.keyed_frames.proofs.StoppedFrames.{message_stops, zone_stops}
use Rattle.keyed_frames.proofs.sending.send_zone.Goals as goal

pub returns-in-Err-clause-stopped : goal.returns-in-Err-clause-stopped
returns-in-Err-clause-stopped g c = zone_stops c.args.transfer.now c.loop.transfer (g.W.Write.contents c.args.output.now) (g.W.Write.contents c.loop.output) c.loop.invariant

pub returns-in-Err-write_framed-clause-stopped : goal.returns-in-Err-write_framed-clause-stopped
returns-in-Err-write_framed-clause-stopped g c =
    let v = g.W.Write.contents c.loop.output in
    let w = g.W.Write.contents c.write_framed.new.output in
    message_stops c.args.transfer.now c.loop.transfer c.next.new.self (g.W.Write.contents c.args.output.now) v w c.seconds-now.result c.next.new.out.items c.in-Ok.is_message c.loop.invariant
    (grind (arith, c.if-not-is_message.false)) c.in-Ok.ensures
    (subst (λ (o : List ℕ). MovesFront (framed o) v w) c.as_slice.ensures.value c.in-Err-write_framed.ensures.front)

pub returns-clause-stopped : goal.returns-clause-stopped
returns-clause-stopped g c = zone_stops c.args.transfer.now c.loop.transfer (g.W.Write.contents c.args.output.now) (g.W.Write.contents c.loop.output) c.loop.invariant
