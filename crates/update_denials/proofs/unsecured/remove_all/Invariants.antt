use Rattle.std.proofs.Common.{◌≡◌}
use Rattle.std.specs.Vec.Iter.{into_iter_items}
use Rattle.zone_map.specs.Puts.{without_all}
use Rattle.update_denials.proofs.unsecured.remove_all.Given as goal

-- without the keys that are left the sets are without all keys
abbrev pub invariant-loop-key : goal.invariant-loop-key
invariant-loop-key l = without_all l.records (into_iter_items l.key-iterator) ≡ without_all l.fn.records l.fn.keys.items
