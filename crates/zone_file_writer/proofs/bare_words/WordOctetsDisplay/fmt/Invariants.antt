use Rattle.std.proofs.Common.{take}
use Rattle.std.specs.Fmt.{HasWritten, IsPlainFormatter}
use Rattle.zone_file_writer.specs.BareWords.{word_octets}
use Rattle.zone_file_writer.proofs.bare_words.WordOctetsDisplay.fmt.Given as goal

abbrev pub invariant-loop-octet : goal.invariant-loop-octet
invariant-loop-octet g l =
    IsPlainFormatter l.initial.f → HasWritten g.W.Write.write_str_gives l.initial.f (word_octets (take l.octet-index l.octet-items)) l.f
