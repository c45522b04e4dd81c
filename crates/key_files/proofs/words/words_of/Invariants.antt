use Rattle.std.proofs.Common.{◌≡◌, ◌++◌, drop}
use Rattle.key_files.specs.Words.{telling, words_from, words_of}
use Rattle.key_files.proofs.words.words_of.Given as goal

abbrev pub invariant-loop-at : goal.invariant-loop-at
invariant-loop-at l = l.words.items ++ telling l.text (words_from l.mode l.at (drop l.at l.text)) ≡ words_of l.text
