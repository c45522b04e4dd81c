use Rattle.zone_planner.proofs.EachSigner.{AreSignersFrom}
use Rattle.zone_planner.proofs.signers.signers_of.Given as goal

-- the signers of the keys so far
abbrev pub invariant-loop-key : goal.invariant-loop-key
invariant-loop-key l = AreSignersFrom l.origin l.keys l.request l.unsigned l.key-index l.signers.items
