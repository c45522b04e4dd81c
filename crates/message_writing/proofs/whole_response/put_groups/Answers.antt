use Rattle.std.proofs.Common.{arith, rules}
use Rattle.message_writing.proofs.Failures.{group_fails}
use Rattle.message_writing.proofs.MoreGroups.{puts_all, puts_more, puts_none}
use Rattle.message_writing.proofs.whole_response.put_groups.Goals as goal

pub loop-group-init : goal.loop-group-init
loop-group-init c = record { put = puts_none c.args.section c.args.writer.now c.args.out.now.items; going = c.requires }

pub loop-group-preserved : goal.loop-group-preserved
loop-group-preserved c = record {
  put = puts_more c.args.section c.args.groups.now c.loop-group.group-index c.group-item.result c.args.writer.now c.loop-group.writer c.put.new.self
      c.args.out.now.items c.loop-group.out.items c.put.new.out.items c.loop-group-test.true c.group-item.is c.loop-group.invariant.put
      c.in_ok-put.ensures.put;
  going = c.in_ok-put.ensures.going;
}

pub returns-clause-put : goal.returns-clause-put
returns-clause-put c =
    puts_all c.args.section c.args.groups.now c.loop-group.group-index c.args.writer.now c.loop-group.writer c.args.out.now.items c.loop-group.out.items
    (omega (arith, c.loop-group-test.false)) c.loop-group.invariant.put

pub returns-in_err-put-clause-err : goal.returns-in_err-put-clause-err
returns-in_err-put-clause-err c =
    let told = group_fails c.args.groups.now c.loop-group.group-index c.group-item.result c.in_err-put.field-0.0 c.loop-group-test.true c.group-item.is
    c.in_err-put.ensures.err in
    search (rules, told)
