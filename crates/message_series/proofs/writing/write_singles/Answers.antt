use Rattle.std.proofs.Common.{◌≡◌, ℕ, ◌+◌, ◌<◌, ◌++◌, List, length, sym, ap, ◌∙◌, subst, arith}
use Rattle.message_writing.specs.DataText.{short_text}
use Rattle.message_writing.specs.declared.response.Group.{Group}
use Rattle.message_series.proofs.Faults.{fault_in, too_many}
use Rattle.message_series.proofs.Pushed.{AreWritten, all_written, is_short, none_there, one_written, some_there}
use Rattle.message_series.proofs.writing.write_singles.Goals as goal

pub messages-preserved : goal.messages-preserved
messages-preserved c =
    subst (λ (gs : List Group). AreWritten (c.messages.count + 1) c.push_message.new.body.items gs c.args.groups.now) (sym c.without_first-rest.ensures.left)
    (one_written c.messages.count c.in-Ok.taken c.messages.body.items c.push_message.new.body.items c.messages.rest.now c.args.groups.now c.messages.invariant c.if-count.false
    c.in-Ok.ensures.put)

pub messages-smaller : goal.messages-smaller
messages-smaller c =
    let p = c.in-Ok.ensures.put in
    let fewer = c.without_first-rest.ensures.fewer in
    let some = p.some in
    omega (arith, fewer, some)

pub returns-then-is_empty-clause-reads : goal.returns-then-is_empty-clause-reads
returns-then-is_empty-clause-reads c =
    let is : c.in_ok-octets.octets.items ≡ short_text c.messages.count ++ c.messages.body.items =
    c.in_ok-octets.ensures ∙ ap (λ (o : List ℕ). short_text c.messages.count ++ o) c.as_slice.ensures.value in
    all_written c.messages.count c.messages.body.items c.in_ok-octets.octets.items c.messages.rest.now c.args.groups.now c.messages.invariant
    (none_there c.messages.rest.now c.is_empty.result c.is_empty.ensures c.if-is_empty.true) is

pub returns-then-is_empty-clause-size : goal.returns-then-is_empty-clause-size
returns-then-is_empty-clause-size c =
    let is : c.in_ok-octets.octets.items ≡ short_text c.messages.count ++ c.messages.body.items =
    c.in_ok-octets.ensures ∙ ap (λ (o : List ℕ). short_text c.messages.count ++ o) c.as_slice.ensures.value in
    is_short c.messages.count c.messages.body.items c.in_ok-octets.octets.items c.messages.rest.now c.args.groups.now c.messages.invariant is

pub returns-then-count-clause-fault : goal.returns-then-count-clause-fault
returns-then-count-clause-fault c =
    too_many c.args.query.now c.messages.count c.messages.body.items c.messages.rest.now c.args.groups.now c.messages.invariant c.requires c.if-count.true
    (some_there c.messages.rest.now c.is_empty.result c.is_empty.ensures c.if-is_empty.false)

pub returns-in-Err-clause-fault : goal.returns-in-Err-clause-fault
returns-in-Err-clause-fault c =
    fault_in c.args.query.now c.messages.count c.messages.body.items c.messages.rest.now c.args.groups.now c.in-Err.fault c.messages.invariant c.in-Err.ensures.fault
