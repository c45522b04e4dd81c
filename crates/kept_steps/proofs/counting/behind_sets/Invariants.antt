use Rattle.std.proofs.Common.{◌≡◌, ◌+◌, length, take}
use Rattle.std.specs.List.{flat_map}
use Rattle.shown_zones.specs.Sending.{sent}
use Rattle.kept_steps.proofs.counting.behind_sets.Given as goal

abbrev pub invariant-loop-set : goal.invariant-loop-set
invariant-loop-set l = l.left + length (flat_map sent (take l.set-index l.sets)) ≡ l.room
