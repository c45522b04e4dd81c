use Rattle.std.proofs.Common.{◌≡◌, length}
use Rattle.hashed_changes.specs.Counting.{has_cut_above}
use Rattle.hashed_changes.proofs.authority.has_cut_above.Given as goal

abbrev pub invariant-loop-ancestor : goal.invariant-loop-ancestor
invariant-loop-ancestor l = has_cut_above l.origin l.zone l.ancestor ≡ has_cut_above l.origin l.zone l.name

abbrev pub decreases-loop-ancestor : goal.decreases-loop-ancestor
decreases-loop-ancestor l = length l.ancestor
