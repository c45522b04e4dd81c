use Rattle.std.proofs.Common.{◌≡◌, drop}
use Rattle.record_fields.specs.Readings.{after}
use Rattle.record_fields.specs.Texts.{names_of}
use Rattle.record_fields.proofs.names.push_all.Given as goal

abbrev pub invariant-loop-word : goal.invariant-loop-word
invariant-loop-word l = after l.out.items (names_of l.origin (drop l.word-index l.words)) ≡ after l.fn.out.items (names_of l.origin l.words)
