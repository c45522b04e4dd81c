use Rattle.std.proofs.Common.{sym, subst}
use Rattle.std.proofs.lemmas.Result.{IfOk-weaker}
use Rattle.ready_table.specs.Ready.{IsReady}
use Rattle.ready_table.proofs.ReadyAgain.{found_again}
use Rattle.ready_table.proofs.table.ReadyTable.put_ready.Goals as goal

pub returns-in-Some-clause-ready : goal.returns-in-Some-clause-ready
returns-in-Some-clause-ready c =
    IfOk-weaker c.put_again.result _ _
    (λ had again t z are read.
    subst (λ l. IsReady z l c.args.query.now c.put_again.new.out.items) c.limit_for-limit.ensures
    (found_again z c.limit_for-limit.result c.said_by.result c.args.message.now c.in-Some.ready.now c.put_again.new.out.items c.args.query.now (c.in-Some.ensures z are) (sym c.said_by.ensures) read (again t)))
    c.put_again.ensures.again
