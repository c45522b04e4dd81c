use Rattle.std.proofs.Common.{◌≡◌, ◌++◌}
use Rattle.zone_proto.specs.Types.{NSEC, NSEC3}
use Rattle.zone_map.specs.Zones.{owners}
use Rattle.zone_map.proofs.denial_index.listed_owners.Given as goal

-- the owners found of each type, and those of the entries that are left, are all
abbrev pub invariant-loop-key : goal.invariant-loop-key
invariant-loop-key l =
    record {
      nsec : l.nsec.items ++ owners l.key-iterator NSEC ≡ owners l.sets NSEC;
      nsec3 : l.nsec3.items ++ owners l.key-iterator NSEC3 ≡ owners l.sets NSEC3;
    }
