use Rattle.std.proofs.Common.{◌≡◌, ◌∷◌, ◌++◌, [], rules, arith}
use Rattle.std.specs.Prelude.{Ok, Some}
use Rattle.std.proofs.lemmas.Grind.{common_steps}
use Rattle.update_rules.specs.Rules.{rule_of, said_line}
use Rattle.update_rules.proofs.Texts.{rule_pushed}
use Rattle.update_rules.proofs.reading.push_rule.Goals as goal

pub returns-in_ok-push-in-Ok-Some-clause-pushed : goal.returns-in_ok-push-in-Ok-Some-clause-pushed
returns-in_ok-push-in-Ok-Some-clause-pushed c =
    let read : rule_of c.args.line.now ≡ Ok (Some (said_line c.in-Ok-Some.rule)) = rw c.in-Ok-Some.field-0-is at c.in-Ok-Some.ensures.rule in
    let pushed : c.push.new.self.items ≡ c.args.rules.now.items ++ c.placed_rule.result ∷ [] = first_of (search rules, grind (arith, common_steps)) in
    rule_pushed c.args.place c.args.line.now c.args.rules.now.items c.push.new.self.items (said_line c.in-Ok-Some.rule) c.placed_rule.result read
    c.placed_rule.ensures pushed
