use Rattle.std.proofs.Common.{◌≡◌, drop}
use Rattle.record_fields.specs.Readings.{after}
use Rattle.record_fields.specs.Texts.{texts_of}
use Rattle.record_fields.proofs.texts.push_texts.Given as goal

abbrev pub invariant-loop-word : goal.invariant-loop-word
invariant-loop-word l = after l.text.items (texts_of (drop l.word-index l.words)) ≡ after l.fn.text.items (texts_of l.words)
