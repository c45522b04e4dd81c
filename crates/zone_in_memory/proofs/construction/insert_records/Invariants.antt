use Rattle.std.proofs.Common.{◌≡◌}
use Rattle.zone_proto.specs.Types.{IN}
use Rattle.zone_map.specs.Upserts.{all_upserted}
use Rattle.zone_map.specs.Zones.{IsZone}
use Rattle.zone_in_memory.proofs.construction.insert_records.Given as goal

-- the records that are left make of the map what all make of the map before
abbrev pub invariant-loop-record : goal.invariant-loop-record
invariant-loop-record l = record {
  left : all_upserted l.map IN l.record-iterator l.serial ≡ all_upserted l.initial.map IN l.set.records l.serial;
  zone : IsZone l.initial.map → IsZone l.map;
}
