use Rattle.zone_response.specs.Sections.{sent_set}
use Rattle.ready_referrals.proofs.KeptSets.{kept_set, one_more, some_is}
use Rattle.ready_referrals.proofs.kept_sets.keep_sets.Goals as goal

pub loop-set-preserved : goal.loop-set-preserved
loop-set-preserved c =
    one_more c.args.cut.now sent_set c.args.sets.now c.loop-set.set-index c.set-item.result c.loop-set.kept.items c.push.new.self.items c.in-Some.records
    c.loop-set-test.true c.set-item.is c.loop-set.invariant
    (kept_set c.args.cut.now c.set-item.result c.in-Some.records (some_is _ _ _ c.in-Some.is c.in_ok-records.ensures)) c.in_ok-push.ensures.items
