use Rattle.std.proofs.Common.{◌-◌, ap, ◌∙◌, arith}
use Rattle.std.specs.Prelude.{option_map}
use Rattle.message_reading.proofs.Passing.{additionals_none, additionals_refused, additionals_more, additionals_out}
use Rattle.message_reading.proofs.extension.additionals_of.Goals as goal

pub returns-in_err-frame : goal.returns-in_err-frame
returns-in_err-frame c =
    ap (option_map (λ x. (x.0, x.1.now))) c.from_residual.ensures
    ∙ additionals_none c.args.count c.loop.counter c.loop.found c.loop.rest.now c.loop-test.true c.in_err-frame.ensures ∙ c.loop.invariant

pub returns-in_err-found : goal.returns-in_err-found
returns-in_err-found c =
    ap (option_map (λ x. (x.0, x.1.now))) c.from_residual-in_err-found.ensures
    ∙ additionals_refused c.args.count c.loop.counter c.loop.found _ c.loop.rest.now c.loop-test.true c.in_ok-frame.ensures c.in_err-found.ensures
    ∙ c.loop.invariant

pub loop-preserved : goal.loop-preserved
loop-preserved c =
    additionals_more c.args.count c.loop.counter c.loop.found c.in_ok-found.found _ c.loop.rest.now c.loop-test.true c.in_ok-frame.ensures
    c.in_ok-found.ensures ∙ c.loop.invariant

pub returns : goal.returns
returns c = additionals_out (c.args.count - c.loop.counter) c.loop.found c.loop.rest.now (omega (arith, c.loop-test.false)) ∙ c.loop.invariant
