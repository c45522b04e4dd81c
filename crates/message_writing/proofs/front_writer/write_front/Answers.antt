use Rattle.std.proofs.Common.{subst}
use Rattle.message_writing.specs.Fronts.{IsFront}
use Rattle.message_writing.specs.Outcomes.{FailsToWrite}
use Rattle.message_writing.proofs.front_writer.write_front.Goals as goal

pub returns-in-Ok-clause-written : goal.returns-in-Ok-clause-written
returns-in-Ok-clause-written c =
    (c.in-Ok.ensures.code, subst (λ n. IsFront n c.args.response.now c.in-Ok.count c.compose_front.new.out.items) c.from.ensures c.in-Ok.ensures.ok)

pub returns-in-Err-clause-written : goal.returns-in-Err-clause-written
returns-in-Err-clause-written c =
    (c.clear.ensures.items, subst (λ n. FailsToWrite n c.args.response.now c.in-Err.error) c.from.ensures c.in-Err.ensures.err)
