use Rattle.std.proofs.Common.{◌≡◌, ℕ, inl, sym, ap, subst, ◌∙◌}
use Rattle.zone_response.specs.Responses.{bare}
use Rattle.zone_server.specs.declared.transfer_reply.TransferReply.{TransferReply}
use Rattle.zone_server.specs.Answers.{GoesOut, IsSent}
use Rattle.zone_server.specs.Limits.{limit_for}
use Rattle.zone_server.specs.Transfers.{soa_sections}
use Rattle.zone_server.specs.TransferSteps.{reply_kept}
use Rattle.transfer_messages.specs.declared.beginning.Begun.TheVariants.{Answered}
use Rattle.transfer_messages.specs.Beginning.{BeginsBy}
use Rattle.transfer_messages.specs.Seals.{goes_out}
use Rattle.transfer_messages.proofs.beginning.begin_reply.Goals as goal
use Rattle.transfer_messages.proofs.beginning.begin_reply.Goals.{in-Code+in_ok-send_code-in-Code, in-StartOfAuthority+in_ok-send_soa-in-StartOfAuthority}

pub returns : goal.returns
returns c =
    let r = c.args.request in
    let t = c.args.transport in
    let limit = limit_for t r.query.extension in
    let octets = c.seal.new.message.items in
    let written = c.match-reply.out.items in
    let sealed : octets ≡ goes_out r.sealing c.args.now limit written =
    c.in_ok-seal.ensures.sealed ∙ ap (λ (l : ℕ). goes_out r.sealing c.args.now l written) (c.from.ensures ∙ c.limit_for-limit.ensures) in
    elim c.match-reply.branch [
      | in-Code+in_ok-send_code-in-Code w ↦
          let is : written ≡ w.send_code.new.out.items = (λ i. (w.out-is i).items) in
          let sent : IsSent limit r.query (bare w.in-Code.code) w.send_code.new.out.items =
          subst (λ (l : ℕ). IsSent l r.query (bare w.in-Code.code) w.send_code.new.out.items) c.limit_for-limit.ensures w.in_ok-send_code-in-Code.ensures in
          subst (λ (x : TransferReply). BeginsBy t c.args.now r (reply_kept x) Answered octets) (sym w.in-Code.is)
          (record { plain = w.send_code.new.out.items; response = inl sent; text = sealed ∙ ap (goes_out r.sealing c.args.now limit) is })
      | in-StartOfAuthority+in_ok-send_soa-in-StartOfAuthority w ↦
          let is : written ≡ w.send_soa.new.out.items = (λ i. (w.out-is i).items) in
          let sent : GoesOut limit r.query (soa_sections w.in-StartOfAuthority.soa.now) w.send_soa.new.out.items =
          subst (λ (l : ℕ). GoesOut l r.query (soa_sections w.in-StartOfAuthority.soa.now) w.send_soa.new.out.items) c.limit_for-limit.ensures w.in_ok-send_soa-in-StartOfAuthority.ensures in
          subst (λ (x : TransferReply). BeginsBy t c.args.now r (reply_kept x) Answered octets) (sym w.in-StartOfAuthority.is)
          (record { plain = w.send_soa.new.out.items; response = sent; text = sealed ∙ ap (goes_out r.sealing c.args.now limit) is })
    ]
