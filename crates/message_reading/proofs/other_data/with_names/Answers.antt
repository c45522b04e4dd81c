use Rattle.std.proofs.Common.{◌++◌, ◌+◌, ◌-◌, None, Some, subst, ap, ◌∙◌, arith}
use Rattle.zone_proto.proofs.Names.WireLabels.{is_nil, not_nil}
use Rattle.message_reading.specs.Octets.{past}
use Rattle.message_reading.specs.MessageNames.{name_of, Spells}
use Rattle.message_reading.specs.OtherForms.{with_names}
use Rattle.message_reading.proofs.PlainNames.{names_none, names_more, names_end, names_left}
use Rattle.message_reading.proofs.other_data.with_names.Goals as goal

pub returns-in-None : goal.returns-in-None
returns-in-None c =
    let m = c.args.message.now in
    let rest = c.loop.rest.now in
    let found = subst (λ a. Spells None (name_of m a rest)) c.past.ensures (rw c.in-None.is at c.in_ok-name_octets.ensures) in
    names_none c.args.names c.loop.counter m (past c.args.at c.args.octets.now) rest c.loop.plain.items _ c.loop-test.true found c.loop.invariant

pub loop-preserved : goal.loop-preserved
loop-preserved c =
    let m = c.args.message.now in
    let rest = c.loop.rest.now in
    let next = c.in-Some.next.now in
    let text = c.in-Some.text.items in
    let found = subst (λ a. Spells (Some (text, next)) (name_of m a rest)) c.past.ensures (rw c.in-Some.is at c.in_ok-name_octets.ensures) in
    ap (λ s. with_names s (c.args.names - (c.loop.counter + 1)) m (past c.args.at c.args.octets.now) next)
    (c.in_ok-extend_from_slice-in-Some.ensures.items ∙ ap (λ s. c.loop.plain.items ++ s) c.as_slice.ensures)
    ∙ names_more c.args.names c.loop.counter m (past c.args.at c.args.octets.now) rest c.loop.plain.items text next _ c.loop-test.true found c.loop.invariant

pub returns-then-is_empty : goal.returns-then-is_empty
returns-then-is_empty c =
    names_end (c.args.names - c.loop.counter) c.args.message.now (past c.args.at c.args.octets.now) c.loop.rest.now c.loop.plain.items _
    (omega (arith, c.loop-test.false)) (is_nil c.is_empty.result c.loop.rest.now c.is_empty.ensures c.if-is_empty.true) c.loop.invariant

pub returns-else-is_empty : goal.returns-else-is_empty
returns-else-is_empty c =
    names_left (c.args.names - c.loop.counter) c.args.message.now (past c.args.at c.args.octets.now) c.loop.rest.now c.loop.plain.items _
    (omega (arith, c.loop-test.false)) (not_nil c.is_empty.result c.loop.rest.now c.is_empty.ensures c.if-is_empty.false) c.loop.invariant
