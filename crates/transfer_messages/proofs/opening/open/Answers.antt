use Rattle.std.proofs.Common.{subst}
use Rattle.std.specs.Prelude.{IfOk}
use Rattle.message_tsig.specs.Checking.{Checked, checked_kept}
use Rattle.transfer_messages.specs.Opening.{IsAuthenticRequest, OpensBy}
use Rattle.transfer_messages.proofs.KeysAsked.{request_is_authentic}
use Rattle.transfer_messages.proofs.Lists.{if_ok}
use Rattle.transfer_messages.proofs.opening.open.Goals as goal

pub returns-in-Ok-clause-opens : goal.returns-in-Ok-clause-opens
returns-in-Ok-clause-opens c =
    subst (λ (x : Checked). IfOk c.open_checked.result (λ o. OpensBy c.args.now c.args.transport c.args.message.now x o c.open_checked.new.out.items)) c.in-Ok.ensures.checked
    c.open_checked.ensures

pub returns-in-Ok-clause-authentic : goal.returns-in-Ok-clause-authentic
returns-in-Ok-clause-authentic c =
    let octets = c.open_checked.new.out.items in
    let t = c.args.transport in
    let message = c.args.message.now in
    if_ok c.open_checked.result (λ o. OpensBy c.args.now t message (checked_kept c.in-Ok.checked) o octets) (IsAuthenticRequest c.args.keys.now c.args.now message)
    (λ o h. request_is_authentic c.args.keys.now c.args.now t message octets c.in-Ok.checked o h c.in-Ok.ensures.authentic) c.open_checked.ensures
