use Rattle.std.proofs.Common.{◌≡◌, drop}
use Rattle.zone_file.specs.Faults.{octets_at}
use Rattle.zone_file.proofs.quoted_word.octets_at.Given as goal

abbrev pub invariant-loop-word : goal.invariant-loop-word
invariant-loop-word l = octets_at l.place (drop l.word-index l.words) ≡ octets_at l.place l.words
