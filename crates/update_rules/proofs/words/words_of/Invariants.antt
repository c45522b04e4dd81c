use Rattle.std.proofs.Common.{◌≡◌, ◌++◌, drop}
use Rattle.update_rules.specs.Words.{words_from, words_of}
use Rattle.update_rules.proofs.words.words_of.Given as goal

abbrev pub invariant-loop-at : goal.invariant-loop-at
invariant-loop-at l = l.words.items ++ words_from l.mode l.at (drop l.at l.line) ≡ words_of l.line
