use Rattle.std.proofs.Common.{◌≡◌}
use Rattle.std.specs.Vec.Iter.{into_iter_items}
use Rattle.zone_difference.specs.Differences.{with_each, with_taken}
use Rattle.zone_difference.proofs.applying.take_all.Given as goal

-- what is left leads to where all lead
abbrev pub invariant-loop-set : goal.invariant-loop-set
invariant-loop-set l = with_each with_taken l.records (into_iter_items l.set-iterator) ≡ with_each with_taken l.fn.records l.fn.taken.items
