use Rattle.std.proofs.Common.{◌+◌, ◌-◌, ap, ◌∙◌, arith}
use Rattle.message_reading.specs.Messages.{several}
use Rattle.update_message.specs.Updates.{additional_of}
use Rattle.message_reading.proofs.Passing.{one_less}
use Rattle.message_reading.proofs.Sections.{with_front, several_none, several_more, several_end}
use Rattle.update_message.proofs.reader.additionals_of.Goals as goal

pub returns-in-None : goal.returns-in-None
returns-in-None c =
    let read = additional_of in
    let rest = c.loop.rest.now in
    let front = c.loop.frames.items in
    several_none read (c.args.count - (c.loop.counter + 1)) rest front _ c.in-None.ensures
    (ap (λ k. with_front front (several read k rest)) (one_less c.args.count c.loop.counter c.loop-test.true) ∙ c.loop.invariant)

pub loop-preserved : goal.loop-preserved
loop-preserved c =
    let read = additional_of in
    let rest = c.loop.rest.now in
    let next = c.in-Some.next.now in
    let front = c.loop.frames.items in
    let k = c.args.count - (c.loop.counter + 1) in
    ap (λ s. with_front s (several read k next)) c.in_ok-push-in-Some.ensures.items
    ∙ several_more read k rest next front c.in-Some.frame _ c.in-Some.ensures
    (ap (λ k. with_front front (several read k rest)) (one_less c.args.count c.loop.counter c.loop-test.true) ∙ c.loop.invariant)

pub returns : goal.returns
returns c =
    several_end additional_of (c.args.count - c.loop.counter) c.loop.rest.now c.loop.frames.items _ (omega (arith, c.loop-test.false))
    c.loop.invariant
