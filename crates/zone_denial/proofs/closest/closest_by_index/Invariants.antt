use Rattle.std.proofs.Common.{length}
use Rattle.zone_denial.proofs.Chain.ClosestSets.{AreRead}
use Rattle.zone_denial.proofs.closest.closest_by_index.Given as goal

-- the owners that aren't left were read and counted, and the next name of none of them is past the name
abbrev pub invariant-loop-owner : goal.invariant-loop-owner
invariant-loop-owner l = AreRead l.records l.name l.owners l.fn.reads l.reads

abbrev pub decreases-loop-owner : goal.decreases-loop-owner
decreases-loop-owner l = length l.owners
