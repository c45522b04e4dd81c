use Rattle.std.proofs.Common.{◌≡◌, ◌++◌, map}
use Rattle.std.specs.Vec.Iter.{into_iter_items}
use Rattle.zone_lookup.specs.FoundSets.{found_set}
use Rattle.zone_lookup.proofs.chain.into_sets.Given as goal

-- the sets so far and those that are left are all sets
abbrev pub invariant-loop-found : goal.invariant-loop-found
invariant-loop-found l = l.sets.items ++ map found_set (into_iter_items l.found-iterator) ≡ map found_set l.fn.chain.items
