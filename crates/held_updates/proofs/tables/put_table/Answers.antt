use Rattle.std.proofs.Common.{◌∙◌, ◌++◌, ◌∷◌, [], ap, List}
use Rattle.update_policy.specs.declared.rule.Rule.{Rule}
use Rattle.held_updates.proofs.Rules.{put}
use Rattle.held_updates.proofs.tables.put_table.Goals as goal

pub returns-in-Ok-clause-added : goal.returns-in-Ok-clause-added
returns-in-Ok-clause-added c =
    put c.args.origin c.args.rule c.args.tables.now c.insert.new.self c.push.new.self c.requires
    (c.in_ok-push.ensures.items ∙ ap (λ (rs : List Rule). rs ++ c.args.rule ∷ []) c.new-rules.ensures.items) c.in-Ok.ensures.updates
