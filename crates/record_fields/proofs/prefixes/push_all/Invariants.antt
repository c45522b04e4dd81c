use Rattle.std.proofs.Common.{◌≡◌, drop}
use Rattle.record_fields.specs.Readings.{after}
use Rattle.record_fields.specs.Texts.{prefixes_of}
use Rattle.record_fields.proofs.prefixes.push_all.Given as goal

abbrev pub invariant-loop-word : goal.invariant-loop-word
invariant-loop-word l = after l.out.items (prefixes_of (drop l.word-index l.words)) ≡ after l.fn.out.items (prefixes_of l.words)
