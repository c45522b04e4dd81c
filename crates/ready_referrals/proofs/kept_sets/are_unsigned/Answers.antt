use Rattle.ready_referrals.proofs.KeptSets.{unsigned_more}
use Rattle.ready_referrals.proofs.kept_sets.are_unsigned.Goals as goal

pub loop-set-preserved : goal.loop-set-preserved
loop-set-preserved c =
    unsigned_more c.args.sets.now c.loop-set.set-index c.set-item.result c.loop-set-test.true c.set-item.is c.loop-set.invariant
    (c.is_unsigned.ensures c.if-not-is_unsigned.false)
