use Rattle.std.proofs.Common.{length}
use Rattle.hashed_changes.specs.Places.{owners_of}
use Rattle.hashed_changes.proofs.NearestRead.{AreRead}
use Rattle.hashed_changes.proofs.nearest.last_besides.Given as goal

-- of the owners that aren't left each is one of some
abbrev pub invariant-loop-owner : goal.invariant-loop-owner
invariant-loop-owner l = AreRead (owners_of l.affected) l.fn.owners l.left

abbrev pub decreases-loop-owner : goal.decreases-loop-owner
decreases-loop-owner l = length l.left
