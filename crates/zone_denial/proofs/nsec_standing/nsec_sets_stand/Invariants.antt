use Rattle.std.proofs.Common.{◌≤◌, length, drop}
use Rattle.zone_map.specs.Zones.{AreStored}
use Rattle.zone_denial.proofs.Sets.KeyRuns.{lent_keys}
use Rattle.zone_denial.proofs.Sets.StandingSets.{StandSoFar}
use Rattle.zone_denial.proofs.nsec_standing.nsec_sets_stand.Given as goal

-- the sets passed are those of the names passed
abbrev pub invariant-loop-key : goal.invariant-loop-key
invariant-loop-key l =
    record {
      stored : AreStored l.key-iterator;
      bound : l.start ≤ length l.keys;
      so_far : StandSoFar l.origin (lent_keys l.keys) l.ttl l.records l.key-iterator (lent_keys (drop l.start l.keys));
    }
