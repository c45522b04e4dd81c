use Rattle.std.proofs.Common.{◌≡◌}
use Rattle.std.specs.Prelude.{[], option_copied}
use Rattle.zone_map.specs.Zones.{AreStored}
use Rattle.zone_denial.specs.Chains.{chain_sets}
use Rattle.zone_database.proofs.PutsInOrder.{put_each}
use Rattle.zone_database.proofs.chain.chain_sets.Given as goal

-- the sets that are left are under their keys; with those of them that stay the map is as with all that stay
abbrev pub invariant-loop-key : goal.invariant-loop-key
invariant-loop-key l =
    record {
      stored : AreStored l.key-iterator;
      made : put_each l.chain (chain_sets (option_copied l.kind) l.key-iterator) ≡ put_each [] (chain_sets (option_copied l.kind) l.records);
    }
