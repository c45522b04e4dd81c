use Rattle.std.proofs.Common.{◌-◌, ap, ◌∙◌, arith}
use Rattle.std.specs.Prelude.{option_map}
use Rattle.message_reading.specs.Octets.{octets_of}
use Rattle.message_reading.proofs.Passing.{owner_empty, owner_end, owner_cut, owner_reserved, owner_half, owner_pointer, owner_label, owner_out}
use Rattle.message_reading.proofs.unread.behind_owner.Goals as goal

pub returns-in_err-first : goal.returns-in_err-first
returns-in_err-first c =
    ap (option_map (λ x. x.now)) c.from_residual.ensures
    ∙ owner_empty (128 - c.loop.counter) c.loop.rest.now c.in_err-first.ensures.cases ∙ c.loop.invariant

pub returns-then-first-eq0 : goal.returns-then-first-eq0
returns-then-first-eq0 c =
    owner_end 128 c.loop.counter c.in_ok-first.first.now c.loop.rest.now c.in_ok-first.behind.now c.loop-test.true c.in_ok-first.ensures.cases.0
    c.if-first-eq0.true ∙ c.loop.invariant

pub returns-in_err-next : goal.returns-in_err-next
returns-in_err-next c =
    ap (option_map (λ x. x.now)) c.from_residual-in_err-next.ensures
    ∙ owner_cut 128 c.loop.counter c.in_ok-first.first.now c.loop.rest.now c.in_ok-first.behind.now c.loop-test.true c.in_ok-first.ensures.cases.0
    c.if-first-eq0.false c.if-first-lt64.true (c.in_err-next.ensures ∙ ap (λ n. octets_of n c.in_ok-first.behind.now) c.from.ensures) ∙ c.loop.invariant

pub returns-then-first-lt192 : goal.returns-then-first-lt192
returns-then-first-lt192 c =
    owner_reserved 128 c.loop.counter c.in_ok-first.first.now c.loop.rest.now c.in_ok-first.behind.now c.loop-test.true c.in_ok-first.ensures.cases.0
    c.if-first-eq0.false c.if-first-lt64.false c.if-first-lt192.true ∙ c.loop.invariant

pub returns-in_err-next-2 : goal.returns-in_err-next-2
returns-in_err-next-2 c =
    ap (option_map (λ x. x.now)) c.from_residual-in_err-next-2.ensures
    ∙ owner_half 128 c.loop.counter c.in_ok-first.first.now c.loop.rest.now c.in_ok-first.behind.now c.loop-test.true c.in_ok-first.ensures.cases.0
    c.if-first-eq0.false c.if-first-lt64.false c.if-first-lt192.false c.in_err-next-2.ensures.cases ∙ c.loop.invariant

pub returns-else-first-lt64 : goal.returns-else-first-lt64
returns-else-first-lt64 c =
    owner_pointer 128 c.loop.counter c.in_ok-first.first.now c.in_ok-next-2.field-0-0.now c.loop.rest.now c.in_ok-first.behind.now c.in_ok-next-2.next.now
    c.loop-test.true c.in_ok-first.ensures.cases.0 c.if-first-eq0.false c.if-first-lt64.false c.if-first-lt192.false c.in_ok-next-2.ensures.cases.0
    ∙ c.loop.invariant

pub loop-preserved : goal.loop-preserved
loop-preserved c =
    owner_label 128 c.loop.counter c.in_ok-first.first.now c.loop.rest.now c.in_ok-first.behind.now c.in_ok-next.field-0-0.now c.in_ok-next.next.now
    c.loop-test.true c.in_ok-first.ensures.cases.0 c.if-first-eq0.false c.if-first-lt64.true (c.in_ok-next.ensures ∙ ap (λ n. octets_of n c.in_ok-first.behind.now) c.from.ensures) ∙ c.loop.invariant

pub returns : goal.returns
returns c = owner_out (128 - c.loop.counter) c.loop.rest.now (omega (arith, c.loop-test.false)) ∙ c.loop.invariant
