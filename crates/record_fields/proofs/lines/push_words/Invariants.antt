use Rattle.std.proofs.Common.{◌≡◌, drop}
use Rattle.record_fields.specs.Readings.{after}
use Rattle.record_fields.specs.Lines.{line_of}
use Rattle.record_fields.proofs.lines.push_words.Given as goal

abbrev pub invariant-loop-word : goal.invariant-loop-word
invariant-loop-word l = after l.line.items (line_of (drop l.word-index l.words)) ≡ after l.fn.line.items (line_of l.words)
