use Rattle.std.proofs.Common.{◌<◌, refl, arith}
use Rattle.transfer_messages.specs.Messages.{left_of, transfer_of}
use Rattle.transfer_messages.proofs.Lists.{none_there, some_there}
use Rattle.transfer_messages.proofs.Sent.{next_sent, none_left, not_written, raised, too_long_left}
use Rattle.transfer_messages.proofs.transfer.write_gathered.Goals as goal

pub returns-then-is_empty : goal.returns-then-is_empty
returns-then-is_empty c =
    let gs = c.args.groups.now in
    (none_left gs (left_of (transfer_of c.args.transfer.now) c.args.place.now) c.requires.gathered (none_there gs c.is_empty.result c.is_empty.ensures c.if-is_empty.true), c.clear.ensures.items)

pub returns-in_err-count : goal.returns-in_err-count
returns-in_err-count c =
    let t = transfer_of c.args.transfer.now in
    let place = c.args.place.now in
    let octets = c.write_first.new.out.items in
    raised t place octets c.from_residual.result c.in_err-count.field-0.0 c.from_residual.ensures.1
    (not_written c.args.groups.now (left_of t place) c.requires.gathered t place octets c.in_err-count.field-0.0 refl c.in_err-count.ensures)

pub returns-then-count-eq0 : goal.returns-then-count-eq0
returns-then-count-eq0 c =
    let gs = c.args.groups.now in
    let t = transfer_of c.args.transfer.now in
    too_long_left gs (left_of t c.args.place.now) c.requires.gathered t c.in_ok-count.count c.write_first.new.out.items (omega (arith, c.if-count-eq0.true))
    (some_there gs c.is_empty.result c.is_empty.ensures c.if-is_empty.false) c.in_ok-count.ensures

pub returns-in-Ok : goal.returns-in-Ok
returns-in-Ok c =
    let t = transfer_of c.args.transfer.now in
    let place = c.args.place.now in
    let some : 0 < c.in_ok-count.count = omega (arith, c.if-count-eq0.false) in
    next_sent c.args.groups.now (left_of t place) c.requires.gathered t place c.in-Ok.next c.in_ok-count.count c.write_first.new.out.items refl some c.in_ok-count.ensures
    c.in-Ok.ensures
