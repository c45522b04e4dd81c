use Rattle.std.proofs.Common.{◌≡◌, []}
use Rattle.std.specs.BTreeMap.{values}
use Rattle.zone_map.specs.Zones.{IsZone}
use Rattle.zone_in_memory.specs.Construction.{inserted_sets}
use Rattle.zone_in_memory.proofs.construction.insert_sets.Given as goal

-- the sets that are left make of the map what all make of none
abbrev pub invariant-loop-set : goal.invariant-loop-set
invariant-loop-set l = record {
  left : inserted_sets l.origin l.serial l.map l.set-iterator ≡ inserted_sets l.origin l.serial [] (values l.sets);
  zone : IsZone l.map;
}
