use Rattle.zone_server.specs.Frames.{framed_of}
use Rattle.zone_server.specs.Serving.{served_of}
use Rattle.zone_server.proofs.ServedFrames.{once_answers}
use Rattle.zone_server.proofs.StoppedFrames.{once_stops, query_stops}
use Rattle.zone_server.proofs.serving.answer_frame.Goals as goal

pub returns-in-Err-clause-put : goal.returns-in-Err-clause-put
returns-in-Err-clause-put g c =
    once_answers (served_of g.S.Signer.signature_of g.H.Nsec3Hash.digest_of c.args.server.now) c.answer_once.result (framed_of c.args.frame) c.in-Err.error
    c.args.answers.now.items c.answer_once.new.answers.items (g.W.Write.contents c.args.output.now) (g.W.Write.contents c.answer_once.new.output)
    c.answer_once.ensures.read c.answer_once.ensures.answer

pub returns-in-Err-clause-stopped : goal.returns-in-Err-clause-stopped
returns-in-Err-clause-stopped g c =
    once_stops (served_of g.S.Signer.signature_of g.H.Nsec3Hash.digest_of c.args.server.now) c.answer_once.result (framed_of c.args.frame) c.in-Err.error
    c.args.answers.now.items (g.W.Write.contents c.args.output.now) (g.W.Write.contents c.answer_once.new.output) c.answer_once.ensures.stopped

pub returns-in-Ok-clause-stopped : goal.returns-in-Ok-clause-stopped
returns-in-Ok-clause-stopped g c =
    query_stops (served_of g.S.Signer.signature_of g.H.Nsec3Hash.digest_of c.args.server.now) c.answer_query.result (framed_of c.args.frame) c.in-Ok.query
    c.args.answers.now.items (g.W.Write.contents c.args.output.now) (g.W.Write.contents c.answer_query.new.output) c.in-Ok.ensures c.answer_query.ensures.stopped
