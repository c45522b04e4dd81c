use Rattle.std.proofs.Common.{arith}
use Rattle.zone_server.proofs.GroupFacts.{puts_none}
use Rattle.ready_referrals.proofs.KeptSets.{placed, puts_next, puts_whole}
use Rattle.ready_referrals.proofs.kept_sets.put_kept_sets.Goals as goal

pub loop-records-init : goal.loop-records-init
loop-records-init c = record {
  put = λ cut ss known kept. puts_none c.args.section c.args.writer.now c.args.out.now.items;
  going = c.requires.going;
  known = λ p n known. known;
}

pub put_kept-requires-clause-placed : goal.put_kept-requires-clause-placed
put_kept-requires-clause-placed c =
    let h = c.requires.kept in
    placed h.0 h.1 c.args.kept.now h.3 c.loop-records.records-index c.records-item.result c.loop-records.out.items c.args.place c.loop-records-test.true
    c.records-item.is (c.loop-records.invariant.known c.args.place h.0 h.2)

pub loop-records-preserved : goal.loop-records-preserved
loop-records-preserved c = record {
  put = λ cut ss known kept.
      puts_next cut ss c.args.kept.now kept c.args.section c.loop-records.records-index c.records-item.result c.args.place c.args.writer.now c.loop-records.writer
      c.put_kept.new.self c.args.out.now.items c.loop-records.out.items c.put_kept.new.out.items c.loop-records-test.true c.records-item.is
      (c.loop-records.invariant.known c.args.place cut known) (c.loop-records.invariant.put cut ss known kept) c.in_ok-put_kept.ensures.put;
  going = c.in_ok-put_kept.ensures.going;
  known = λ p n known. c.in_ok-put_kept.ensures.known p n (c.loop-records.invariant.known p n known);
}

pub returns-clause-put : goal.returns-clause-put
returns-clause-put c = λ cut ss known kept.
    puts_whole cut ss c.args.kept.now kept c.args.section c.loop-records.records-index c.args.writer.now c.loop-records.writer c.args.out.now.items
    c.loop-records.out.items (omega (arith, c.loop-records-test.false)) (c.loop-records.invariant.put cut ss known kept)
