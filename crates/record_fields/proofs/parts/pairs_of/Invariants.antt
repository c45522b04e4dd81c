use Rattle.std.proofs.Common.{◌≡◌, length}
use Rattle.line_text.proofs.HexFacts.{after_octets}
use Rattle.record_fields.specs.Parts.{pairs_of}
use Rattle.record_fields.proofs.parts.pairs_of.Given as goal

abbrev pub invariant-loop-high : goal.invariant-loop-high
invariant-loop-high l = pairs_of l.fn.word ≡ after_octets l.octets.items (pairs_of l.rest)

abbrev pub decreases-loop-high : goal.decreases-loop-high
decreases-loop-high l = length l.rest
