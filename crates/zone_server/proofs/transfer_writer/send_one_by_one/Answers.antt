use Rattle.std.proofs.Common.{◌≡◌, map, refl, sym, arith, rules}
use Rattle.message_writing.specs.Responses.{all_records, records_of}
use Rattle.zone_server.specs.Transfers.{joined, one_by_one}
use Rattle.zone_server.proofs.TransferFacts.{joined_groups, joined_one_by_one, stopped_at_once}
use Rattle.zone_server.proofs.TransferRuns.{halts_of, pieces_halt, pieces_more, single_halts, some_left}
use Rattle.zone_server.proofs.transfer_writer.send_one_by_one.Goals as goal

pub returns-in_err-count-clause-halted : goal.returns-in_err-count-clause-halted
returns-in_err-count-clause-halted g c =
    let q = c.args.query.now in
    let rs = records_of c.args.group.now in
    let left = c.loop-left.left.now in
    let a = c.args.answers.now.items in
    let b = c.loop-left.answers.items in
    let d = c.send_message.new.answers.items in
    let u = g.W.Write.contents c.args.output.now in
    let v = g.W.Write.contents c.loop-left.output in
    let w = g.W.Write.contents c.send_message.new.output in
    let e = c.in_err-count.field-0.0 in
    let reported = halts_of q (joined (one_by_one rs)) rs a d u w e (joined_one_by_one rs)
    (pieces_halt q (one_by_one rs) (map records_of left) a b d u v w e c.loop-left.invariant
    (halts_of q (all_records left) (joined (map records_of left)) b d v w e (sym (joined_groups left)) c.in_err-count.ensures.halted)) in
    search (rules, reported)

pub returns-then-count-eq0-clause-halted : goal.returns-then-count-eq0-clause-halted
returns-then-count-eq0-clause-halted g c =
    let rs = records_of c.args.group.now in
    let left = c.loop-left.left.now in
    let zero : c.in_ok-count.count ≡ 0 = omega (arith, c.if-count-eq0.true) in
    single_halts c.args.query.now (one_by_one rs) rs left c.args.answers.now.items c.loop-left.answers.items c.send_message.new.answers.items
    (g.W.Write.contents c.args.output.now) (g.W.Write.contents c.loop-left.output) (g.W.Write.contents c.send_message.new.output) c.in_ok-count.count refl
    c.loop-left.invariant (some_left left c.is_empty.result c.is_empty.ensures c.loop-left-test.true) zero (c.in_ok-count.ensures.none zero)
    c.in_ok-count.ensures.sent

pub loop-left-preserved : goal.loop-left-preserved
loop-left-preserved g c =
    pieces_more c.args.query.now (one_by_one (records_of c.args.group.now)) c.loop-left.left.now c.behind-left.result.now c.in_ok-count.count
    c.args.answers.now.items c.loop-left.answers.items c.send_message.new.answers.items (g.W.Write.contents c.args.output.now)
    (g.W.Write.contents c.loop-left.output) (g.W.Write.contents c.send_message.new.output) c.loop-left.invariant c.in_ok-count.ensures.sent
    c.behind-left.ensures.value

pub returns-in_err-singles-clause-halted : goal.returns-in_err-singles-clause-halted
returns-in_err-singles-clause-halted g c =
    let reported = stopped_at_once c.args.query.now (records_of c.args.group.now) c.args.answers.now.items (g.W.Write.contents c.args.output.now) in
    search (rules, reported)
