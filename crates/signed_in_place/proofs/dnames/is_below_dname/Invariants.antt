use Rattle.std.proofs.Common.{◌≡◌, length}
use Rattle.signed_in_place.specs.InPlace.{is_below_dname}
use Rattle.signed_in_place.proofs.dnames.is_below_dname.Given as goal

abbrev pub invariant-loop-ancestor : goal.invariant-loop-ancestor
invariant-loop-ancestor l = is_below_dname l.origin l.zone l.ancestor ≡ is_below_dname l.origin l.zone l.name

abbrev pub decreases-loop-ancestor : goal.decreases-loop-ancestor
decreases-loop-ancestor l = length l.ancestor
