use Rattle.std.proofs.Common.{refl, sym, ap}
use Rattle.zone_handler.specs.Transfers.{transfer_records}
use Rattle.zonectl_session.specs.Replies.{failed, transferred, lookup_word}
use Rattle.zonectl_session.specs.Steps.{IsTransferred, transfer_reply}
use Rattle.zonectl_session.proofs.Pushing.{written}
use Rattle.zonectl_session.proofs.replies.transfer.Goals as goal

pub returns-in-Ok : goal.returns-in-Ok
returns-in-Ok c =
    written (IsTransferred c.args.served.now c.args.options) (transferred (transfer_records c.in-Ok.transfer)) _ _ _ _ c.write_transfer.ensures refl
    (c.ask_transfer.result, c.ask_transfer.ensures, sym (ap transfer_reply c.in-Ok.is))

pub returns-in-Err : goal.returns-in-Err
returns-in-Err c =
    written (IsTransferred c.args.served.now c.args.options) (failed (lookup_word c.in-Err.error)) _ _ _ _ c.writeln.ensures.bytes refl
    (c.ask_transfer.result, c.ask_transfer.ensures, sym (ap transfer_reply c.in-Err.is))
