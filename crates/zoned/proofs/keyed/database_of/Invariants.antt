use Rattle.std.proofs.Common.{◌≡◌, []}
use Rattle.std.specs.Vec.Iter.{into_iter_items}
use Rattle.zone_database.specs.Databases.{zones_in}
use Rattle.zoned.specs.Keyed.{all_with}
use Rattle.zoned.proofs.keyed.database_of.Given as goal

-- those that are left, put among those so far, are all
abbrev pub invariant-loop-zone : goal.invariant-loop-zone
invariant-loop-zone l = all_with (into_iter_items l.zone-iterator) (zones_in l.database) ≡ all_with l.fn.zones.items []
