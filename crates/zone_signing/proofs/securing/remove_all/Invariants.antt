use Rattle.std.proofs.Common.{◌≡◌}
use Rattle.std.specs.Vec.Iter.{into_iter_items}
use Rattle.zone_map.specs.Puts.{without_all}
use Rattle.zone_signing.proofs.securing.remove_all.Given as goal

-- without the keys that are left the sets are without all keys
abbrev pub invariant-loop-key : goal.invariant-loop-key
invariant-loop-key l = without_all l.zone (into_iter_items l.key-iterator) ≡ without_all l.fn.zone l.fn.keys.items
