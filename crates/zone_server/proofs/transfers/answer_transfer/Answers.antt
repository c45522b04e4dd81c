use Rattle.zone_server.specs.Serving.{served_of}
use Rattle.zone_server.specs.Stopping.{BeginsReply, Stops}
use Rattle.zone_server.specs.Transfers.{reply_to}
use Rattle.zone_server.proofs.WrittenFronts.{none_stops, on_err}
use Rattle.zone_server.proofs.transfers.answer_transfer.Goals as goal

pub returns-in_err-reply-clause-stopped : goal.returns-in_err-reply-clause-stopped
returns-in_err-reply-clause-stopped g c =
    let s = served_of {S = g.row.S.Denot} {H = g.row.H.Denot} g.S.Signer.signature_of g.H.Nsec3Hash.digest_of c.args.server.now in
    let Is = BeginsReply c.args.frame.transport c.args.query.now (reply_to s.zones s.policies c.args.frame.transport c.args.frame.message.now c.args.query.now) in
    let a = c.args.answers.now.items in
    let u = g.W.Write.contents c.args.output.now in
    on_err c.from_residual.result (Stops Is a u u) (none_stops Is a u)
