use Rattle.std.proofs.Common.{refl, subst}
use Rattle.zone_response.specs.Responses.{bare}
use Rattle.zone_server.specs.Sending.{FailsToSend}
use Rattle.zone_server.proofs.SentMessages.{all_are_writable}
use Rattle.zone_server.proofs.sending.send_code.Goals as goal

pub unreachable-requires : goal.unreachable-requires
unreachable-requires c =
    all_are_writable (bare c.args.code) refl (subst (FailsToSend (bare c.args.code)) c.in-Err-Unwritable.field-0-is c.in-Err-Unwritable.ensures)
