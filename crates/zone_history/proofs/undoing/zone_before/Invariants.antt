use Rattle.std.proofs.Common.{◌≡◌, length}
use Rattle.zone_history.specs.Histories.{undone}
use Rattle.zone_history.proofs.undoing.zone_before.Given as goal

-- what is left, undone of the zone so far, is all of them, undone of the zone
abbrev pub invariant-loop-version : goal.invariant-loop-version
invariant-loop-version l = undone l.records l.rest ≡ undone l.zone l.versions

abbrev pub decreases-loop-version : goal.decreases-loop-version
decreases-loop-version l = length l.rest
