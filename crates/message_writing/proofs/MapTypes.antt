-- The types of a map, read back
use Rattle.std.proofs.Common.{◌≡◌, ◌*◌, ◌/◌, ◌<◌, List, [], ◌∷◌, length, map, Some, refl, ap, arith}
use Rattle.std.proofs.lemmas.List.{length-append}
use Rattle.zone_proto.specs.declared.record_type.RecordType.{RecordType}
use Rattle.message_reading.specs.TypeMaps.{types_within, types_of, type_numbered}
use Rattle.message_writing.specs.TypeMapText.{block, map_text, window_front, window_rest, numbers, IsAscendingFrom}
use Rattle.message_writing.specs.DataText.{AreMapTypes, AreTypeNumbers, types_text}
use Rattle.message_writing.proofs.BitMaps.{map_back}

typed_numbers : (ts : List RecordType) → map type_numbered (numbers ts) ≡ ts
typed_numbers [] = refl
typed_numbers (t ∷ ts) = ap (λ us. t ∷ us) (typed_numbers ts)

pub types_back : (ts : List RecordType) → AreMapTypes ts → AreTypeNumbers ts → types_of (types_text ts) ≡ Some ts
unfolding types_of
types_back ts m below =
    let from : IsAscendingFrom (0 * 256) (numbers ts) = m.ascend in
    let e : types_within 257 0 (map_text 256 (numbers ts)) ≡ Some (numbers ts) = map_back 256 0 (numbers ts) (omega arith) from below m.kept in
    rw e (ap (λ us. Some us) (typed_numbers ts))

pub some_octets : (ts : List RecordType) → 0 < length ts → 0 < length (types_text ts)
some_octets [] some = absurd (omega (arith, some))
some_octets (t ∷ ts) some =
    let front = window_front (t.0 / 256) (numbers ts) in
    omega (arith, length-append (block t.0 front) (map_text 255 (window_rest (t.0 / 256) (numbers ts))))
