use Rattle.std.proofs.Common.{◌≡◌, length}
use Rattle.chain_changes.specs.Renewal.{has_cut_above}
use Rattle.chain_changes.proofs.authority.has_cut_above.Given as goal

abbrev pub invariant-loop-ancestor : goal.invariant-loop-ancestor
invariant-loop-ancestor l = has_cut_above l.origin l.zone l.ancestor ≡ has_cut_above l.origin l.zone l.name

abbrev pub decreases-loop-ancestor : goal.decreases-loop-ancestor
decreases-loop-ancestor l = length l.ancestor
