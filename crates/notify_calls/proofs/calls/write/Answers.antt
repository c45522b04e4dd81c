use Rattle.notify_calls.proofs.NotifyFacts.{refused}
use Rattle.notify_calls.proofs.calls.write.Goals as goal

pub returns-in-Err : goal.returns-in-Err
returns-in-Err c = refused c.args.id c.args.origin.now c.args.buffer.now c.in-Err.outcome c.in-Err.ensures.refusal
