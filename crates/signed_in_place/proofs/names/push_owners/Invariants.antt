use Rattle.std.proofs.Common.{◌≡◌, ◌||◌}
use Rattle.zone_proto.specs.Names.{Name}
use Rattle.zone_map.specs.Zones.{names_of}
use Rattle.update_in_place.specs.Parts.{is_among}
use Rattle.signed_in_place.proofs.names.push_owners.Given as goal

-- those so far, and those of the sets that are left
abbrev pub invariant-loop-key : goal.invariant-loop-key
invariant-loop-key l = (n : Name) → (is_among l.names.items n || is_among (names_of l.key-iterator) n) ≡ (is_among l.fn.names.items n || is_among (names_of l.sets) n)
