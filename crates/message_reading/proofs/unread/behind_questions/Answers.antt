use Rattle.std.proofs.Common.{◌-◌, ap, ◌∙◌, arith}
use Rattle.std.specs.Prelude.{option_map}
use Rattle.message_reading.proofs.Passing.{questions_none, questions_more, questions_out}
use Rattle.message_reading.proofs.unread.behind_questions.Goals as goal

pub returns-in_err-rest : goal.returns-in_err-rest
returns-in_err-rest c =
    ap (option_map (λ x. x.now)) c.from_residual.ensures
    ∙ questions_none c.args.count c.loop.counter c.loop.rest.now c.loop-test.true c.in_err-rest.ensures ∙ c.loop.invariant

pub loop-preserved : goal.loop-preserved
loop-preserved c =
    questions_more c.args.count c.loop.counter c.loop.rest.now _ c.loop-test.true c.in_ok-rest.ensures ∙ c.loop.invariant

pub returns : goal.returns
returns c = questions_out (c.args.count - c.loop.counter) c.loop.rest.now (omega (arith, c.loop-test.false)) ∙ c.loop.invariant
