use Rattle.std.proofs.Common.{◌∷◌, ◌+◌, ◌-◌, ap, sym, ◌∙◌, Some, arith}
use Rattle.std.proofs.lemmas.List.{nil_from_length}
use Rattle.message_reading.specs.TypeMaps.{types_within}
use Rattle.message_reading.proofs.TypeBlocks.{with_types, types_all, types_end, types_low, types_none, types_more, types_out}
use Rattle.message_reading.proofs.type_map.types_of.Goals as goal

pub loop-init : goal.loop-init
loop-init c = ap (λ s. with_types s (types_within 257 0 c.args.octets.now)) c.new-types.ensures.items ∙ types_all c.args.octets.now

pub returns-in_default : goal.returns-in_default
returns-in_default c =
    ap (λ s. Some s) c.from_vec.ensures
    ∙ types_end 257 c.loop.counter c.loop.lowest c.loop.rest.now c.loop.types.items _ c.loop-test.true (nil_from_length _ c.in_default.ensures.cases)
    c.loop.invariant

pub returns-then-window-lowest : goal.returns-then-window-lowest
returns-then-window-lowest c =
    types_low 257 c.loop.counter c.loop.lowest c.in-Some.first.now c.loop.rest.now c.in-Some.behind.now c.loop.types.items _ c.loop-test.true
    c.in-Some.ensures.cases.0 (omega (arith, c.if-window-lowest.true, c.from-window.ensures)) c.loop.invariant

pub returns-in_default-block_of : goal.returns-in_default-block_of
returns-in_default-block_of c =
    types_none 257 c.loop.counter c.loop.lowest c.in-Some.first.now c.loop.rest.now c.in-Some.behind.now c.loop.types.items _ c.loop-test.true
    c.in-Some.ensures.cases.0 (omega (arith, c.if-window-lowest.false, c.from-window.ensures)) c.in_default-block_of.ensures.value c.loop.invariant

pub loop-preserved : goal.loop-preserved
loop-preserved c =
    let k = 257 - (c.loop.counter + 1) in
    let next = c.in-Some-block_of.next.now in
    ap (λ s. with_types s (types_within k (c.from-window.result + 1) next)) c.in_ok-push_bits.ensures
    ∙ types_more 257 c.loop.counter c.loop.lowest c.from-window.result c.loop.rest.now c.in-Some.behind.now c.in-Some-block_of.bits.now next
    c.loop.types.items _ c.loop-test.true (c.in-Some.ensures.cases.0 ∙ ap (λ w. w ∷ c.in-Some.behind.now) (sym c.from-window.ensures))
    c.if-window-lowest.false c.in-Some-block_of.ensures.value c.loop.invariant

pub returns : goal.returns
returns c = types_out (257 - c.loop.counter) c.loop.lowest c.loop.rest.now c.loop.types.items _ (omega (arith, c.loop-test.false)) c.loop.invariant
