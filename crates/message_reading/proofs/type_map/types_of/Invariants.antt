use Rattle.std.proofs.Common.{◌≡◌, ◌-◌}
use Rattle.message_reading.specs.TypeMaps.{types_of, types_within}
use Rattle.message_reading.proofs.TypeBlocks.{with_types}
use Rattle.message_reading.proofs.type_map.types_of.Given as goal

abbrev pub invariant-loop : goal.invariant-loop
invariant-loop l = with_types l.types.items (types_within (257 - l.counter) l.lowest l.rest) ≡ types_of l.octets
