use Rattle.hashed_changes.specs.AffectedNames.{affected_by, all_affected}
use Rattle.hashed_changes.proofs.AffectedPushed.{one_more_made}
use Rattle.hashed_changes.proofs.affected.all_affected.Goals as goal

pub loop-key-preserved : goal.loop-key-preserved
loop-key-preserved c =
    one_more_made (affected_by c.args.origin.now c.args.zone.now) c.args.keys.now c.loop-key.key-index c.key-item.result c.loop-key.names.items c.push_affected.new.names.items
    (all_affected c.args.origin.now c.args.zone.now c.args.keys.now) c.loop-key-test.true c.key-item.is c.in_ok-push_affected.ensures.ok c.loop-key.invariant
