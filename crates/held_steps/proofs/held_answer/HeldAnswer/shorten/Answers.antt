use Rattle.std.proofs.Common.{◌≡◌, ℕ, true, refl, rules, subst}
use Rattle.std.specs.Prelude.{Option, Vec}
use Rattle.std.specs.declared.alloc.Global.{Global}
use Rattle.held_steps.specs.Lacking.{GivesSteps}
use Rattle.held_steps.proofs.Shortened.{whole_by}
use Rattle.held_steps.proofs.held_answer.HeldAnswer.shorten.Goals as goal

pub returns-in-Some : goal.returns-in-Some
returns-in-Some c =
    let starts : c.is_at_start.result ≡ true = search rules in (
      c.in-Some.texts,
      whole_by c.args.self.now c.is_some.result c.is_at_start.result c.is_some.ensures c.if-is_some.false c.is_at_start.ensures starts,
      subst (λ (o : Option (Vec (Vec ℕ Global) Global)). GivesSteps c.args.steps.now c.args.self.now.transfer c.args.message.now o) c.in-Some.is c.in_ok-texts.ensures,
      refl,
    )
