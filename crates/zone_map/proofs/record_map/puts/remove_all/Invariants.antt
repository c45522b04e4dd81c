use Rattle.std.proofs.Common.{◌≡◌}
use Rattle.std.specs.Vec.Iter.{into_iter_items}
use Rattle.zone_map.specs.Puts.{without_all}
use Rattle.zone_map.proofs.record_map.puts.remove_all.Given as goal

-- without those whose keys are left the sets become those that they are to be
abbrev pub invariant-loop-key : goal.invariant-loop-key
invariant-loop-key l = without_all l.sets (into_iter_items l.key-iterator) ≡ without_all l.fn.sets l.fn.keys.items
