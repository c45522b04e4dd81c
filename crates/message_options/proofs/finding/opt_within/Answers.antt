use Rattle.std.proofs.Common.{◌-◌, ap, ◌∙◌, arith, eq-eqb}
use Rattle.std.specs.Prelude.{option_map}
use Rattle.std.proofs.lemmas.Bool.{ne_eqb}
use Rattle.message_options.proofs.Passing.{data_found, data_more, data_none, data_out}
use Rattle.message_options.proofs.finding.opt_within.Goals as goal

pub returns-in_err-frame : goal.returns-in_err-frame
returns-in_err-frame c =
    ap (option_map (λ x. (x.0, x.1.now))) c.from_residual.ensures
    ∙ data_none c.args.count c.loop.counter c.loop.rest.now c.loop-test.true c.in_err-frame.ensures ∙ c.loop.invariant

pub returns-then-frame : goal.returns-then-frame
returns-then-frame c =
    data_found c.args.count c.loop.counter _ c.loop.rest.now c.loop-test.true c.in_ok-frame.ensures
    (eq-eqb c.in_ok-frame.frame.record_type 41 c.if-frame.true) ∙ c.loop.invariant

pub loop-preserved : goal.loop-preserved
loop-preserved c =
    data_more c.args.count c.loop.counter _ c.loop.rest.now c.loop-test.true c.in_ok-frame.ensures
    (ne_eqb c.in_ok-frame.frame.record_type 41 c.if-frame.false) ∙ c.loop.invariant

pub returns : goal.returns
returns c = data_out (c.args.count - c.loop.counter) c.loop.rest.now (omega (arith, c.loop-test.false)) ∙ c.loop.invariant
