use Rattle.std.proofs.Common.{◌≡◌, drop}
use Rattle.record_fields.specs.Readings.{after}
use Rattle.record_fields.specs.Texts.{strings_of}
use Rattle.record_fields.proofs.texts.push_all_strings.Given as goal

abbrev pub invariant-loop-word : goal.invariant-loop-word
invariant-loop-word l = after l.out.items (strings_of (drop l.word-index l.words)) ≡ after l.fn.out.items (strings_of l.words)
