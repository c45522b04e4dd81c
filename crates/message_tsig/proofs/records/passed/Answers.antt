use Rattle.std.proofs.Common.{◌-◌, ap, ◌∙◌, arith}
use Rattle.std.specs.Prelude.{option_map}
use Rattle.message_tsig.proofs.Passing.{passed_none, passed_more, passed_out}
use Rattle.message_tsig.proofs.records.passed.Goals as goal

pub returns-in_err-frame : goal.returns-in_err-frame
returns-in_err-frame c =
    ap (option_map (λ x. (x.0, x.1.now))) c.from_residual.ensures
    ∙ passed_none c.args.count c.loop.counter c.loop.found c.loop.rest.now c.loop-test.true c.in_err-frame.ensures ∙ c.loop.invariant

pub loop-preserved : goal.loop-preserved
loop-preserved c =
    passed_more c.args.count c.loop.counter c.loop.found c.is_found-found.result c.loop.rest.now _ c.loop-test.true
    c.in_ok-frame.ensures c.is_found-found.ensures ∙ c.loop.invariant

pub returns : goal.returns
returns c = passed_out (c.args.count - c.loop.counter) c.loop.found c.loop.rest.now (omega (arith, c.loop-test.false)) ∙ c.loop.invariant
