use Rattle.std.proofs.Common.{◌-◌, ◌∙◌, arith}
use Rattle.zone_proto.proofs.Names.WireLabels.{is_nil, not_nil}
use Rattle.message_reading.proofs.Passing.{options_end, options_none, options_more, options_out}
use Rattle.message_reading.proofs.options.are_options.Goals as goal

pub returns-then-is_empty : goal.returns-then-is_empty
returns-then-is_empty c = options_end 65 c.loop.counter c.loop.rest.now c.loop-test.true (is_nil c.is_empty.result c.loop.rest.now c.is_empty.ensures c.if-is_empty.true) ∙ c.loop.invariant

pub returns-in-None : goal.returns-in-None
returns-in-None c = options_none 65 c.loop.counter c.loop.rest.now c.loop-test.true (not_nil c.is_empty.result c.loop.rest.now c.is_empty.ensures c.if-is_empty.false) c.in-None.ensures ∙ c.loop.invariant

pub loop-preserved : goal.loop-preserved
loop-preserved c = options_more 65 c.loop.counter c.loop.rest.now c.in-Some.next.now c.loop-test.true (not_nil c.is_empty.result c.loop.rest.now c.is_empty.ensures c.if-is_empty.false) c.in-Some.ensures ∙ c.loop.invariant

pub returns : goal.returns
returns c = options_out (65 - c.loop.counter) c.loop.rest.now (omega (arith, c.loop-test.false)) ∙ c.loop.invariant
