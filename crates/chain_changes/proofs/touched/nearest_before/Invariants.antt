use Rattle.std.proofs.Common.{length}
use Rattle.chain_changes.proofs.NearestRead.{AreRead}
use Rattle.chain_changes.proofs.touched.nearest_before.Given as goal

-- of the owners that aren't left none is to have an NSEC set
abbrev pub invariant-loop-owner : goal.invariant-loop-owner
invariant-loop-owner l = AreRead l.origin l.zone l.name l.owners

abbrev pub decreases-loop-owner : goal.decreases-loop-owner
decreases-loop-owner l = length l.owners
