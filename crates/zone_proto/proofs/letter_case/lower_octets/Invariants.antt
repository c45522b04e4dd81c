use Rattle.std.proofs.Common.{◌≡◌, map}
use Rattle.std.specs.Char.{to_ascii_lowercase}
use Rattle.zone_proto.proofs.Names.Lower.{written}
use Rattle.zone_proto.proofs.letter_case.lower_octets.Given as goal

abbrev pub invariant-loop-octet : goal.invariant-loop-octet
invariant-loop-octet l = written to_ascii_lowercase l.octets l.octet-index ≡ map to_ascii_lowercase l.fn.octets
