use Rattle.std.proofs.Common.{◌≤◌, length}
use Rattle.zone_map.specs.Zones.{AreStored, IsZone}
use Rattle.zone_denial.proofs.Sets.StandingCircles.{CircleStands}
use Rattle.zone_denial.proofs.nsec3_standing.nsec3_sets_stand.Given as goal

-- the sets passed are those of the names passed
abbrev pub invariant-loop-key : goal.invariant-loop-key
invariant-loop-key l =
    record {
      zone : IsZone l.records;
      stored : AreStored l.key-iterator;
      bound : l.passed ≤ length l.held;
      so_far : CircleStands l.origin l.parameters l.ttl l.held l.records l.key-iterator l.passed;
    }
