use Rattle.std.proofs.Common.{◌≡◌, ◌==◌, ◌||◌}
use Rattle.std.specs.List.{list_any}
use Rattle.zone_map.specs.Upserts.{clash}
use Rattle.zone_map.proofs.AnyTypes.{Ascends}
use Rattle.zone_map.proofs.Neighbours.{front_types, from_key}
use Rattle.zone_map.proofs.record_map.RecordMap.standing_at.Given as goal

-- no type that was passed clashes, so that those that are left tell; what was noted of the record's type, and else what is left, is what the whole has; the types that are left ascend
abbrev pub invariant-loop-key : goal.invariant-loop-key
invariant-loop-key l = record {
  clashes : list_any (clash l.record_type.0) (front_types l.least.name l.key-iterator) ≡ list_any (clash l.record_type.0) (front_types l.least.name (from_key l.least l.self));
  there :
      l.is_there || list_any (λ u. l.record_type.0 == u) (front_types l.least.name l.key-iterator)
      ≡ list_any (λ u. l.record_type.0 == u) (front_types l.least.name (from_key l.least l.self));
  ascend : Ascends (front_types l.least.name l.key-iterator);
}
