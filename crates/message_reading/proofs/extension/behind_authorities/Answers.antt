use Rattle.std.proofs.Common.{◌-◌, ap, ◌∙◌, arith, eq-eqb}
use Rattle.std.specs.Prelude.{option_map}
use Rattle.std.proofs.lemmas.Bool.{ne_eqb}
use Rattle.message_reading.proofs.Passing.{authorities_none, authorities_refused, authorities_more, authorities_out}
use Rattle.message_reading.proofs.extension.behind_authorities.Goals as goal

pub returns-in_err-frame : goal.returns-in_err-frame
returns-in_err-frame c =
    ap (option_map (λ x. x.now)) c.from_residual.ensures
    ∙ authorities_none c.args.count c.loop.counter c.loop.rest.now c.loop-test.true c.in_err-frame.ensures ∙ c.loop.invariant

pub returns-then-frame : goal.returns-then-frame
returns-then-frame c =
    authorities_refused c.args.count c.loop.counter _ c.loop.rest.now c.loop-test.true c.in_ok-frame.ensures
    (eq-eqb c.in_ok-frame.frame.record_type 41 c.if-frame.true) ∙ c.loop.invariant

pub loop-preserved : goal.loop-preserved
loop-preserved c =
    authorities_more c.args.count c.loop.counter _ c.loop.rest.now c.loop-test.true c.in_ok-frame.ensures
    (ne_eqb c.in_ok-frame.frame.record_type 41 c.if-frame.false) ∙ c.loop.invariant

pub returns : goal.returns
returns c = authorities_out (c.args.count - c.loop.counter) c.loop.rest.now (omega (arith, c.loop-test.false)) ∙ c.loop.invariant
