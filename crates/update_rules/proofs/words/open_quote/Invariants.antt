use Rattle.std.proofs.Common.{◌≡◌, drop}
use Rattle.update_rules.specs.Words.{mode_along}
use Rattle.update_rules.specs.declared.words.Mode.TheVariants.{Between}
use Rattle.update_rules.proofs.words.open_quote.Given as goal

abbrev pub invariant-loop-at : goal.invariant-loop-at
invariant-loop-at l = mode_along l.mode l.at (drop l.at l.line) ≡ mode_along Between 0 l.line
