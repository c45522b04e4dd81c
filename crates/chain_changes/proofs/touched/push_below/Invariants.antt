use Rattle.std.proofs.Common.{◌≡◌, ◌++◌}
use Rattle.std.specs.Prelude.{filter}
use Rattle.zone_proto.specs.Names.{Name, is_at_or_above}
use Rattle.zone_map.specs.Zones.{names_of}
use Rattle.update_in_place.specs.Parts.{is_among}
use Rattle.chain_changes.proofs.NamesFrom.{names_below}
use Rattle.chain_changes.proofs.touched.push_below.Given as goal

-- among those so far, and those of the entries that are left as far as they are at or below the name, are the same names as among all
abbrev pub invariant-loop-key : goal.invariant-loop-key
invariant-loop-key l = (n : Name) → is_among (l.names.items ++ names_below l.name l.key-iterator) n ≡ is_among (l.fn.names.items ++ filter (is_at_or_above l.name) (names_of l.zone)) n
