use Rattle.std.proofs.Common.{◌≡◌, drop}
use Rattle.kept_steps.specs.Kept.{newest_within, size_of}
use Rattle.kept_steps.proofs.counting.too_many.Given as goal

-- of the steps from a place on as many are kept as of all
abbrev pub invariant-loop-place : goal.invariant-loop-place
invariant-loop-place l = (l.left ≡ size_of (drop l.place l.steps)) × (newest_within l.most (drop l.place l.steps) ≡ newest_within l.most l.steps)
