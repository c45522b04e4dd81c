use Rattle.std.proofs.Common.{◌++◌, length}
use Rattle.zone_server.specs.Frames.{length_text}
use Rattle.zone_server.specs.Stopping.{MovesFront}
use Rattle.zone_server.proofs.WrittenFronts.{none_front, on_err}
use Rattle.keyed_frames.proofs.Written.{both_front, first_front, second_front}
use Rattle.keyed_frames.proofs.sending.write_behind_length.Goals as goal

pub returns-then-count-gt65535-clause-front : goal.returns-then-count-gt65535-clause-front
returns-then-count-gt65535-clause-front g c = none_front (length_text (length c.args.octets.now) ++ c.args.octets.now) (g.W.Write.contents c.args.output.now)

pub returns-in-Err-clause-front : goal.returns-in-Err-clause-front
returns-in-Err-clause-front g c =
    first_front (length_text (length c.args.octets.now)) c.args.octets.now (g.W.Write.contents c.args.output.now) (g.W.Write.contents c.write_whole.new.output) c.in-Err.ensures.front

pub returns-in-Err-write_whole-clause-front : goal.returns-in-Err-write_whole-clause-front
returns-in-Err-write_whole-clause-front g c =
    second_front (length_text (length c.args.octets.now)) c.args.octets.now (g.W.Write.contents c.args.output.now) (g.W.Write.contents c.write_whole.new.output)
    (g.W.Write.contents c.write_whole-2.new.output) c.in_default.ensures.all c.in-Err-write_whole.ensures.front

pub returns-clause-front : goal.returns-clause-front
returns-clause-front g c =
    let head = length_text (length c.args.octets.now) in
    let u = g.W.Write.contents c.args.output.now in
    let x = g.W.Write.contents c.flush.new.self in
    on_err c.flush.result (MovesFront (head ++ c.args.octets.now) u x)
    (both_front head c.args.octets.now u (g.W.Write.contents c.write_whole.new.output) (g.W.Write.contents c.write_whole-2.new.output) x c.in_default.ensures.all
    c.in_default-write_whole.ensures.all c.flush.ensures.bytes)
