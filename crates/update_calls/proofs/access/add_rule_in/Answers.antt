use Rattle.std.proofs.Common.{◌∙◌, sym}
use Rattle.update_calls.proofs.CallFacts.{added}
use Rattle.update_calls.proofs.access.add_rule_in.Goals as goal

-- there is a key of this name, and the rule was added
pub returns-in-Ok-add_rule : goal.returns-in-Ok-add_rule
returns-in-Ok-add_rule c =
    added c.args.texts.now c.args.access.now c.add_rule.new.self c.in-Ok.read.origin c.in-Ok.read.rule c.in-Ok.ensures.rule (sym c.has_key.ensures ∙ c.if-not-has_key.false)
    c.in-Ok-add_rule.ensures.keys c.in-Ok-add_rule.ensures.added
