use Rattle.std.proofs.Common.{◌≡◌}
use Rattle.std.specs.Vec.Iter.{into_iter_items}
use Rattle.zoned.proofs.Ruled.{IsLeft}
use Rattle.zoned.proofs.rules.add_rules.Given as goal

-- the keys stay, and the rules that are there and those that are left are all
abbrev pub invariant-loop-placed : goal.invariant-loop-placed
invariant-loop-placed l =
    (l.access.keys ≡ l.fn.access.keys) × IsLeft (into_iter_items l.placed-iterator) l.access.tables.entries l.fn.rules.items l.fn.access.tables.entries
