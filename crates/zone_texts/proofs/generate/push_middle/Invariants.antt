use Rattle.std.proofs.Common.{◌≡◌, ◌++◌, drop}
use Rattle.zone_texts.specs.Generation.{middle_text}
use Rattle.zone_texts.proofs.generate.push_middle.Given as goal

abbrev pub invariant-loop-word : goal.invariant-loop-word
invariant-loop-word l = l.line.items ++ middle_text (drop l.word-index l.words) ≡ l.fn.line.items ++ middle_text l.words
