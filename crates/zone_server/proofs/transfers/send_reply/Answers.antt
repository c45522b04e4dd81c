use Rattle.std.proofs.Common.{◌++◌, List, ℕ, sym, subst}
use Rattle.std.specs.Prelude.{OnErr, OnOk}
use Rattle.zone_server.specs.declared.transfer_reply.TransferReply.{TransferReply}
use Rattle.zone_server.specs.Frames.{framed}
use Rattle.zone_server.specs.Serving.{Moves, Puts}
use Rattle.zone_server.specs.Stopping.{BeginsReply, MovesFront, Stops}
use Rattle.zone_server.specs.Transfers.{soa_sections, IsOneMessage, Replies}
use Rattle.zone_server.specs.TransferSteps.{reply_kept}
use Rattle.zone_server.proofs.TransferRuns.{message_put, message_unput}
use Rattle.zone_server.proofs.WrittenFronts.{none_stops, on_err}
use Rattle.zone_server.proofs.transfers.send_reply.Goals as goal

pub returns-in_ok-send_soa-in-StartOfAuthority-clause-put : goal.returns-in_ok-send_soa-in-StartOfAuthority-clause-put
returns-in_ok-send_soa-in-StartOfAuthority-clause-put g c =
    let q = c.args.query.now in
    let t = c.args.frame.transport in
    let s = soa_sections c.in-StartOfAuthority.soa.now in
    let r = c.put_answer-in-StartOfAuthority.result in
    let a = c.args.answers.now.items in
    let b = c.put_answer-in-StartOfAuthority.new.answers.items in
    let u = g.W.Write.contents c.args.output.now in
    let v = g.W.Write.contents c.put_answer-in-StartOfAuthority.new.output in
    let put = message_put q r c.limit_for-limit.result s c.send_soa.new.out.items a b u v c.in_ok-send_soa-in-StartOfAuthority.ensures
    (subst (λ (o : List ℕ). OnOk r (Moves (a ++ framed o) u v b)) c.as_slice-in-StartOfAuthority.ensures.value c.put_answer-in-StartOfAuthority.ensures.put) in
    subst (λ (x : TransferReply). OnOk r (Puts (Replies t q (reply_kept x)) a b u v)) (sym c.in-StartOfAuthority.is)
    (subst (λ (l : ℕ). OnOk r (Puts (IsOneMessage l q s) a b u v)) c.limit_for-limit.ensures put)

pub returns-in_ok-send_soa-in-StartOfAuthority-clause-stopped : goal.returns-in_ok-send_soa-in-StartOfAuthority-clause-stopped
returns-in_ok-send_soa-in-StartOfAuthority-clause-stopped g c =
    let q = c.args.query.now in
    let t = c.args.frame.transport in
    let s = soa_sections c.in-StartOfAuthority.soa.now in
    let r = c.put_answer-in-StartOfAuthority.result in
    let a = c.args.answers.now.items in
    let u = g.W.Write.contents c.args.output.now in
    let v = g.W.Write.contents c.put_answer-in-StartOfAuthority.new.output in
    let unput = message_unput q r c.limit_for-limit.result s c.send_soa.new.out.items a u v c.in_ok-send_soa-in-StartOfAuthority.ensures
    (subst (λ (o : List ℕ). OnErr r (MovesFront (a ++ framed o) u v)) c.as_slice-in-StartOfAuthority.ensures.value c.put_answer-in-StartOfAuthority.ensures.front) in
    subst (λ (x : TransferReply). OnErr r (Stops (BeginsReply t q (reply_kept x)) a u v)) (sym c.in-StartOfAuthority.is)
    (subst (λ (l : ℕ). OnErr r (Stops (IsOneMessage l q s) a u v)) c.limit_for-limit.ensures unput)

pub returns-in_err-send_soa-in-StartOfAuthority-clause-stopped : goal.returns-in_err-send_soa-in-StartOfAuthority-clause-stopped
returns-in_err-send_soa-in-StartOfAuthority-clause-stopped g c =
    let Is = BeginsReply c.args.frame.transport c.args.query.now (reply_kept c.args.reply) in
    let a = c.args.answers.now.items in
    let u = g.W.Write.contents c.args.output.now in
    on_err c.from_residual-in_err-send_soa-in-StartOfAuthority.result (Stops Is a u u) (none_stops Is a u)

pub returns-in_err-send_code-in-Code-clause-stopped : goal.returns-in_err-send_code-in-Code-clause-stopped
returns-in_err-send_code-in-Code-clause-stopped g c =
    let Is = BeginsReply c.args.frame.transport c.args.query.now (reply_kept c.args.reply) in
    let a = c.args.answers.now.items in
    let u = g.W.Write.contents c.args.output.now in
    on_err c.from_residual.result (Stops Is a u u) (none_stops Is a u)

pub returns-in-Whole-clause-put : goal.returns-in-Whole-clause-put
returns-in-Whole-clause-put g c =
    let r = c.send_zone.result in
    let a = c.args.answers.now.items in
    let b = c.send_zone.new.answers.items in
    let u = g.W.Write.contents c.args.output.now in
    let v = g.W.Write.contents c.send_zone.new.output in
    subst (λ (x : TransferReply). OnOk r (Puts (Replies c.args.frame.transport c.args.query.now (reply_kept x)) a b u v)) (sym c.in-Whole.is) c.send_zone.ensures.sent

pub returns-in-Whole-clause-stopped : goal.returns-in-Whole-clause-stopped
returns-in-Whole-clause-stopped g c =
    let r = c.send_zone.result in
    let a = c.args.answers.now.items in
    let u = g.W.Write.contents c.args.output.now in
    let v = g.W.Write.contents c.send_zone.new.output in
    subst (λ (x : TransferReply). OnErr r (Stops (BeginsReply c.args.frame.transport c.args.query.now (reply_kept x)) a u v)) (sym c.in-Whole.is) c.send_zone.ensures.stopped
