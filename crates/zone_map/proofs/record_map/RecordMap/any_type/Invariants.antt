use Rattle.std.proofs.Common.{◌≡◌}
use Rattle.std.specs.Prelude.{None, option_map}
use Rattle.zone_proto.specs.declared.record_type.RecordType.{RecordType}
use Rattle.zone_map.proofs.AnyTypes.{chosen}
use Rattle.zone_map.proofs.Neighbours.{front_types, from_key}
use Rattle.zone_map.proofs.record_map.RecordMap.any_type.Given as goal

-- what is left, after the first type that was passed, has the choice of the whole
abbrev pub invariant-loop-key : goal.invariant-loop-key
invariant-loop-key l =
    chosen (option_map (λ (t : RecordType). t.0) l.first) (front_types l.least.name l.key-iterator)
    ≡ chosen None (front_types l.least.name (from_key l.least l.self))
