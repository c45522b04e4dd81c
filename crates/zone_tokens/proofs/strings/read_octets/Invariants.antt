use Rattle.std.proofs.Common.{◌≡◌, drop}
use Rattle.line_text.proofs.HexFacts.{after_octets}
use Rattle.zone_tokens.specs.Strings.{octets_from, octets_of_text}
use Rattle.zone_tokens.proofs.strings.read_octets.Given as goal

abbrev pub invariant-loop-octet : goal.invariant-loop-octet
invariant-loop-octet l = after_octets l.octets.items (octets_from (drop l.octet-index l.word) l.escape) ≡ octets_of_text l.word
