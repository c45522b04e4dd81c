use Rattle.std.proofs.Common.{◌≡◌, ◌++◌, map}
use Rattle.std.specs.Vec.Iter.{into_iter_items}
use Rattle.zone_database.specs.Texts.{given_of}
use Rattle.zone_database.proofs.reading.given_records.Given as goal

-- those so far, with those that are left, are all
abbrev pub invariant-loop-placed : goal.invariant-loop-placed
invariant-loop-placed l = l.given.items ++ map given_of (into_iter_items l.placed-iterator) ≡ map given_of l.fn.records.items
