use Rattle.std.proofs.Common.{sym, ◌∙◌}
use Rattle.zone_server.specs.Frames.{framed_of}
use Rattle.zone_server.specs.Serving.{served_of}
use Rattle.zone_server.proofs.StoppedFrames.{one_stops, transfer_stops}
use Rattle.zone_server.proofs.serving.answer_query.Goals as goal

pub returns-then-asks_for_transfer-clause-stopped : goal.returns-then-asks_for_transfer-clause-stopped
returns-then-asks_for_transfer-clause-stopped g c =
    transfer_stops (served_of g.S.Signer.signature_of g.H.Nsec3Hash.digest_of c.args.server.now) c.answer_transfer.result (framed_of c.args.frame) c.args.query
    c.args.answers.now.items (g.W.Write.contents c.args.output.now) (g.W.Write.contents c.answer_transfer.new.output)
    (sym c.asks_for_transfer.ensures ∙ c.if-asks_for_transfer.true) c.answer_transfer.ensures.stopped

pub returns-clause-stopped : goal.returns-clause-stopped
returns-clause-stopped g c =
    one_stops (served_of g.S.Signer.signature_of g.H.Nsec3Hash.digest_of c.args.server.now) c.answer_once.result (framed_of c.args.frame) c.args.query
    c.args.answers.now.items (g.W.Write.contents c.args.output.now) (g.W.Write.contents c.answer_once.new.output)
    (sym c.asks_for_transfer.ensures ∙ c.if-asks_for_transfer.false) c.answer_once.ensures.stopped
