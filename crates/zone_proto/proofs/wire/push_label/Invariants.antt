use Rattle.std.proofs.Common.{◌≡◌, ◌++◌, ◌∷◌, length, map, drop}
use Rattle.std.specs.Char.{to_ascii_lowercase}
use Rattle.zone_proto.proofs.wire.push_label.Given as goal

abbrev pub invariant-loop-octet : goal.invariant-loop-octet
invariant-loop-octet l =
    l.bytes.items ++ map to_ascii_lowercase (drop l.octet-index l.label) ≡ l.fn.bytes.items ++ length l.label ∷ map to_ascii_lowercase l.label
