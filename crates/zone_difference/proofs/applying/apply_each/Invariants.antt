use Rattle.std.proofs.Common.{◌≡◌}
use Rattle.std.specs.Vec.Iter.{into_iter_items}
use Rattle.zone_difference.specs.Differences.{replayed}
use Rattle.zone_difference.proofs.applying.apply_each.Given as goal

-- what is left leads to where all lead
abbrev pub invariant-loop-difference : goal.invariant-loop-difference
invariant-loop-difference l = replayed l.records (into_iter_items l.difference-iterator) ≡ replayed l.fn.records l.fn.differences.items
