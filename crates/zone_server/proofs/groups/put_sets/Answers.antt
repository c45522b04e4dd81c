use Rattle.std.proofs.Common.{arith, rules}
use Rattle.zone_server.proofs.GroupFacts.{puts_all, puts_more, puts_none, set_fails}
use Rattle.zone_server.proofs.groups.put_sets.Goals as goal

pub loop-sent-init : goal.loop-sent-init
loop-sent-init c = record { put = puts_none c.args.section c.args.writer.now c.args.out.now.items; going = c.requires }

pub loop-sent-preserved : goal.loop-sent-preserved
loop-sent-preserved c = record {
  put = puts_more c.args.section c.args.sets.now c.loop-sent.sent-index c.sent-item.result c.args.writer.now c.loop-sent.writer c.put_set.new.writer
      c.args.out.now.items c.loop-sent.out.items c.put_set.new.out.items c.loop-sent-test.true c.sent-item.is c.loop-sent.invariant.put
      c.in_ok-put_set.ensures.put;
  going = c.in_ok-put_set.ensures.going;
}

pub returns-clause-put : goal.returns-clause-put
returns-clause-put c =
    puts_all c.args.section c.args.sets.now c.loop-sent.sent-index c.args.writer.now c.loop-sent.writer c.args.out.now.items c.loop-sent.out.items
    (omega (arith, c.loop-sent-test.false)) c.loop-sent.invariant.put

pub returns-in_err-put_set-clause-err : goal.returns-in_err-put_set-clause-err
returns-in_err-put_set-clause-err c =
    let told = set_fails c.args.sets.now c.loop-sent.sent-index c.sent-item.result c.in_err-put_set.field-0.0 c.loop-sent-test.true c.sent-item.is
    c.in_err-put_set.ensures.err in
    search (rules, told)
