use Rattle.std.proofs.Common.{refl, sym, ap}
use Rattle.zone_handler.specs.AuthLookup.{records_of}
use Rattle.zonectl_session.specs.Replies.{failed, proved, lookup_word}
use Rattle.zonectl_session.specs.Steps.{IsDenied, denial_reply}
use Rattle.zonectl_session.proofs.Pushing.{written}
use Rattle.zonectl_session.proofs.replies.deny.Goals as goal

pub returns-in-Ok : goal.returns-in-Ok
returns-in-Ok c =
    written (IsDenied c.args.served.now c.args.key.now) (proved (records_of c.in-Ok.proof)) _ _ _ _ c.write_records.ensures refl
    (c.denial.result, c.denial.ensures, sym (ap denial_reply c.in-Ok.is))

pub returns-in-Err : goal.returns-in-Err
returns-in-Err c =
    written (IsDenied c.args.served.now c.args.key.now) (failed (lookup_word c.in-Err.error)) _ _ _ _ c.writeln.ensures.bytes refl
    (c.denial.result, c.denial.ensures, sym (ap denial_reply c.in-Err.is))
