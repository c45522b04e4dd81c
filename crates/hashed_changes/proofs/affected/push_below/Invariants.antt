use Rattle.std.proofs.Common.{◌≡◌, ◌++◌}
use Rattle.std.specs.Prelude.{filter, flat_map}
use Rattle.zone_proto.specs.Names.{is_at_or_above}
use Rattle.zone_map.specs.Zones.{names_of}
use Rattle.hashed_changes.specs.AffectedNames.{with_ancestors}
use Rattle.hashed_changes.proofs.NamesFrom.{names_below}
use Rattle.hashed_changes.proofs.affected.push_below.Given as goal

-- those so far, and those of the entries that are left as far as they are at or below the name, are all
abbrev pub invariant-loop-key : goal.invariant-loop-key
invariant-loop-key l =
    l.names.items ++ flat_map (with_ancestors l.origin) (names_below l.name l.key-iterator)
    ≡ l.fn.names.items ++ flat_map (with_ancestors l.origin) (filter (is_at_or_above l.name) (names_of l.zone))
