use Rattle.std.proofs.Common.{sym, ap, ◌∙◌}
use Rattle.zone_builder.specs.Sets.{with_set}
use Rattle.zone_builder.proofs.Making.{stored_with}
use Rattle.zone_builder.proofs.sets.put_set.Goals as goal

pub returns-in_ok-push-clause-stored : goal.returns-in_ok-push-clause-stored
returns-in_ok-push-clause-stored c =
    stored_with c.args.key c.args.serial c.args.group c.requires.group.named c.requires.group c.args.sets.now.items c.push.new.self.items
    (c.in_ok-push.ensures.items ∙ ap (with_set c.args.sets.now.items c.args.key) (sym c.in-Some.is ∙ c.in_ok-set.ensures.ok))
