use Rattle.std.proofs.Common.{◌≡◌, length}
use Rattle.line_text.specs.Hex.{hex_octets}
use Rattle.line_text.proofs.HexFacts.{after_octets}
use Rattle.line_text.proofs.hex.read_octets.Given as goal

abbrev pub invariant-loop-high : goal.invariant-loop-high
invariant-loop-high l = hex_octets l.fn.digits ≡ after_octets l.octets.items (hex_octets l.rest)

abbrev pub decreases-loop-high : goal.decreases-loop-high
decreases-loop-high l = length l.rest
