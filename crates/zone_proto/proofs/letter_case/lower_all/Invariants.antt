use Rattle.std.proofs.Common.{◌≡◌, map}
use Rattle.std.specs.Char.{to_ascii_lowercase}
use Rattle.zone_proto.specs.Names.{lower}
use Rattle.zone_proto.specs.Vectors.{octets_of}
use Rattle.zone_proto.proofs.Names.Lower.{written}
use Rattle.zone_proto.proofs.letter_case.lower_all.Given as goal

abbrev pub invariant-loop-i : goal.invariant-loop-i
invariant-loop-i l = written (map to_ascii_lowercase) (octets_of l.labels.items) l.i ≡ lower (octets_of l.fn.labels.items)
