use Rattle.std.proofs.Common.{◌+◌, ◌-◌, ap, ◌∙◌, arith}
use Rattle.message_reading.specs.Messages.{several}
use Rattle.update_message.specs.Updates.{entry_of}
use Rattle.message_reading.proofs.Passing.{one_less}
use Rattle.message_reading.proofs.Sections.{with_front, several_none, several_more, several_end}
use Rattle.update_message.proofs.reader.entries_of.Goals as goal

pub returns-in-None : goal.returns-in-None
returns-in-None c =
    let read = entry_of c.args.are_prerequisites c.args.message.now in
    let rest = c.loop.rest.now in
    let front = c.loop.entries.items in
    several_none read (c.args.count - (c.loop.counter + 1)) rest front _ (rw c.in-None.is at c.in_ok-entry_of.ensures)
    (ap (λ k. with_front front (several read k rest)) (one_less c.args.count c.loop.counter c.loop-test.true) ∙ c.loop.invariant)

pub loop-preserved : goal.loop-preserved
loop-preserved c =
    let read = entry_of c.args.are_prerequisites c.args.message.now in
    let rest = c.loop.rest.now in
    let next = c.in-Some.next.now in
    let front = c.loop.entries.items in
    let k = c.args.count - (c.loop.counter + 1) in
    ap (λ s. with_front s (several read k next)) c.in_ok-push-in-Some.ensures.items
    ∙ several_more read k rest next front c.in-Some.entry _ (rw c.in-Some.is at c.in_ok-entry_of.ensures)
    (ap (λ k. with_front front (several read k rest)) (one_less c.args.count c.loop.counter c.loop-test.true) ∙ c.loop.invariant)

pub returns : goal.returns
returns c =
    several_end (entry_of c.args.are_prerequisites c.args.message.now) (c.args.count - c.loop.counter) c.loop.rest.now c.loop.entries.items _ (omega (arith, c.loop-test.false))
    c.loop.invariant
