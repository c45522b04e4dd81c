use Rattle.zone_builder.proofs.Joining.{ordered_put}
use Rattle.zone_builder.proofs.groups.put_behind.Goals as goal

pub returns-clause-ordered : goal.returns-clause-ordered
returns-clause-ordered c = λ ordered up_to.
    let before = c.last_under-before in
    ordered_put before.new.groups.items c.args.groups.now.items c.push.new.self.items c.args.key before.result c.in_ok-both.both before.ensures.taken c.in_ok-push.ensures.items
    (before.ensures.below ordered up_to) ordered
