use Rattle.std.proofs.Common.{◌-◌, ap, ◌∙◌, arith, eq-eqb}
use Rattle.std.specs.Prelude.{option_map}
use Rattle.std.proofs.lemmas.Bool.{ne_eqb}
use Rattle.message_options.proofs.Passing.{value_found, value_more, value_none, value_out}
use Rattle.message_options.proofs.finding.option_value.Goals as goal

pub returns-in_err-found : goal.returns-in_err-found
returns-in_err-found c =
    ap (option_map (λ x. x.now)) c.from_residual.ensures
    ∙ value_none 64 c.loop.counter c.args.code c.loop.rest.now c.loop-test.true c.in_err-found.ensures ∙ c.loop.invariant

pub returns-then-found-code : goal.returns-then-found-code
returns-then-found-code c =
    value_found 64 c.loop.counter c.args.code _ c.loop.rest.now c.loop-test.true c.in_ok-found.ensures
    (eq-eqb c.in_ok-found.found c.args.code c.if-found-code.true) ∙ c.loop.invariant

pub loop-preserved : goal.loop-preserved
loop-preserved c =
    value_more 64 c.loop.counter c.args.code _ c.loop.rest.now c.loop-test.true c.in_ok-found.ensures
    (ne_eqb c.in_ok-found.found c.args.code c.if-found-code.false) ∙ c.loop.invariant

pub returns : goal.returns
returns c = value_out (64 - c.loop.counter) c.args.code c.loop.rest.now (omega (arith, c.loop-test.false)) ∙ c.loop.invariant
