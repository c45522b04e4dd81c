use Rattle.message_writing.specs.Responses.{all_records}
use Rattle.zone_journal.proofs.Sounds.{more_sent, more_sound}
use Rattle.zone_journal.proofs.groups.push_sets.Goals as goal

pub loop-set-preserved : goal.loop-set-preserved
loop-set-preserved c =
    let sets = c.args.sets.now in
    let i = c.loop-set.set-index in
    let s = c.set-item.result in (
      more_sent sets i s (all_records c.args.groups.now.items) (all_records c.loop-set.groups.items) (all_records c.push_set.new.groups.items) c.loop-set-test.true c.set-item.is
          c.loop-set.invariant.0 c.in_ok-push_set.ensures.records,
      more_sound sets i s c.loop-set-test.true c.set-item.is c.loop-set.invariant.1 c.in_ok-push_set.ensures.sound,
    )
