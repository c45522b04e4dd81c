use Rattle.std.proofs.Common.{◌++◌}
use Rattle.zone_server.specs.Frames.{framed}
use Rattle.zone_server.specs.Stopping.{MovesFront}
use Rattle.zone_server.proofs.WrittenFronts.{none_front, on_err}
use Rattle.zone_server.proofs.waiting.put_answer.Goals as goal

pub returns-in_err-push_framed-clause-front : goal.returns-in_err-push_framed-clause-front
returns-in_err-push_framed-clause-front g c =
    let waited = c.args.answers.now.items ++ framed c.args.octets.now in
    let u = g.W.Write.contents c.args.output.now in
    on_err c.from_residual.result (MovesFront waited u u) (none_front waited u)
