use Rattle.std.proofs.Common.{◌<◌, map, refl, arith, rules}
use Rattle.message_writing.specs.Responses.{records_of}
use Rattle.zone_server.proofs.TransferRuns.{no_sets_yet, sets_halt, sets_more, some_left, some_sent}
use Rattle.zone_server.proofs.transfer_writer.send_all.Goals as goal

pub loop-left-init : goal.loop-left-init
loop-left-init g c =
    no_sets_yet c.args.query.now (map records_of c.args.waiting.now) (map records_of c.args.waiting.now) c.args.answers.now.items
    (g.W.Write.contents c.args.output.now) refl

pub returns-in_err-count-clause-halted : goal.returns-in_err-count-clause-halted
returns-in_err-count-clause-halted g c =
    let reported = sets_halt c.args.query.now (map records_of c.args.waiting.now) (map records_of c.loop-left.left.now) c.args.answers.now.items
    c.loop-left.answers.items c.send_first.new.answers.items (g.W.Write.contents c.args.output.now) (g.W.Write.contents c.loop-left.output)
    (g.W.Write.contents c.send_first.new.output) c.in_err-count.field-0.0 c.loop-left.invariant c.in_err-count.ensures.halted in
    search (rules, reported)

pub loop-left-preserved : goal.loop-left-preserved
loop-left-preserved g c =
    sets_more c.args.query.now (map records_of c.args.waiting.now) c.loop-left.left.now c.behind-left.result.now c.in_ok-count.count
    c.args.answers.now.items c.loop-left.answers.items c.send_first.new.answers.items (g.W.Write.contents c.args.output.now)
    (g.W.Write.contents c.loop-left.output) (g.W.Write.contents c.send_first.new.output) c.loop-left.invariant c.in_ok-count.ensures.sent
    c.behind-left.ensures.value

pub loop-left-smaller : goal.loop-left-smaller
loop-left-smaller g c =
    let left = c.loop-left.left.now in
    let some : 0 < c.in_ok-count.count =
    some_sent c.in_ok-count.count left c.in_ok-count.ensures.some (some_left left c.is_empty.result c.is_empty.ensures c.loop-left-test.true) in
    omega (arith, some, c.behind-left.ensures.len)
