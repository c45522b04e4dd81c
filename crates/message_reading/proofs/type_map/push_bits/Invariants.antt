use Rattle.std.proofs.Common.{◌≡◌, ◌+◌, ◌*◌, ◌++◌, map, drop}
use Rattle.message_reading.specs.TypeMaps.{bits_from, type_numbered}
use Rattle.message_reading.proofs.type_map.push_bits.Given as goal

abbrev pub invariant-loop-octet : goal.invariant-loop-octet
invariant-loop-octet l = record {
  counted : l.number ≡ l.first + 8 * l.octet-index;
  pushed : l.types.items ++ map type_numbered (bits_from l.number (drop l.octet-index l.bits))
      ≡ l.initial.types.items ++ map type_numbered (bits_from l.first l.bits);
}
