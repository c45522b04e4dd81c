use Rattle.std.proofs.Common.{sym, true≢false}
use Rattle.zone_in_memory.proofs.Transferring.{others_refused}
use Rattle.zone_in_memory.proofs.transfer.refusal.Goals as goal

pub returns-in-Err : goal.returns-in-Err
returns-in-Err c = others_refused c.args.policy c.args.request.now.queries.items c.in-Err.error (λ h. true≢false (sym (c.in-Err.ensures.one.1 h))) c.in-Err.ensures.err
