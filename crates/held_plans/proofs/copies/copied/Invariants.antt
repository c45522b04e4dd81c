use Rattle.std.proofs.Common.{◌≡◌}
use Rattle.std.specs.Prelude.{[]}
use Rattle.zone_map.specs.Zones.{AreStored}
use Rattle.held_plans.proofs.Copying.{put_each}
use Rattle.held_plans.specs.Copies.{copied}
use Rattle.held_plans.proofs.copies.copied.Given as goal

-- the sets that are left are under their keys; with copies of those of them that pass the map is as with those of all
abbrev pub invariant-loop-key : goal.invariant-loop-key
invariant-loop-key l =
    record {
      stored : AreStored l.key-iterator;
      made : put_each l.made (copied l.anew l.key-iterator) ≡ put_each [] (copied l.anew l.records);
    }
