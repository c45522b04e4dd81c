use Rattle.std.proofs.Common.{◌+◌, ◌-◌, ap, ◌∙◌, arith}
use Rattle.message_reading.proofs.Passing.{one_less}
use Rattle.message_series.specs.Series.{all_answers_of}
use Rattle.message_series.proofs.Counted.{with_front, none_more, some_more, all_read}
use Rattle.message_series.proofs.reading.all_answers_of.Goals as goal

pub returns-in-None : goal.returns-in-None
returns-in-None c =
    let rest = c.loop.rest.now in
    let front = c.loop.records.items in
    none_more (c.args.count - (c.loop.counter + 1)) rest front _ (rw c.in-None.is at c.in_ok-answers_of.ensures)
    (ap (λ k. with_front front (all_answers_of k rest)) (one_less c.args.count c.loop.counter c.loop-test.true) ∙ c.loop.invariant)

pub loop-preserved : goal.loop-preserved
loop-preserved c =
    let rest = c.loop.rest.now in
    let next = c.in-Some.next.now in
    let front = c.loop.records.items in
    let k = c.args.count - (c.loop.counter + 1) in
    ap (λ s. with_front s (all_answers_of k next)) c.in_ok-append-in-Some.ensures.items
    ∙ some_more k rest next front c.in-Some.answers.items _ (rw c.in-Some.is at c.in_ok-answers_of.ensures)
    (ap (λ k. with_front front (all_answers_of k rest)) (one_less c.args.count c.loop.counter c.loop-test.true) ∙ c.loop.invariant)

pub returns : goal.returns
returns c =
    all_read (c.args.count - c.loop.counter) c.loop.rest.now c.loop.records.items _ (omega (arith, c.loop-test.false)) c.loop.invariant
