use Rattle.message_writing.specs.Responses.{all_records}
use Rattle.shown_zones.specs.Sending.{sent}
use Rattle.difference_messages.proofs.Pushed.{one_more}
use Rattle.difference_messages.proofs.groups.push_sets.Goals as goal

pub loop-set-preserved : goal.loop-set-preserved
loop-set-preserved c =
    one_more sent c.args.sets.now c.loop-set.set-index c.set-item.result (all_records c.args.groups.now.items) (all_records c.loop-set.groups.items)
    (all_records c.push_set.new.groups.items) c.loop-set-test.true c.set-item.is c.loop-set.invariant c.in_ok-push_set.ensures
