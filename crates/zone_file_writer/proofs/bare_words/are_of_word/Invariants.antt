use Rattle.std.proofs.Common.{◌≡◌, drop, false}
use Rattle.zone_file_writer.specs.BareWords.{are_of_word}
use Rattle.zone_file_writer.proofs.bare_words.are_of_word.Given as goal

abbrev pub invariant-loop-octet : goal.invariant-loop-octet
invariant-loop-octet l = are_of_word l.is_escaped (drop l.octet-index l.text) ≡ are_of_word false l.text
