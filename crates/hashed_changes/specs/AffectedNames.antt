-- The names that a change of a zone affects, as they are found
use Rattle.std.specs.Prelude.{◌++◌, if◌then◌else◌, List, [], ◌∷◌, filter, flat_map}
use Rattle.zone_proto.specs.declared.rr_key.RrKey.{RrKey}
use Rattle.zone_proto.specs.Names.{Name, is_above, is_at_or_above, proper_ancestors}
use Rattle.zone_map.specs.Zones.{Sets, names_of}
use Rattle.hashed_changes.specs.Affected.{makes_cut}

-- a name with its ancestors strictly below the origin
abbrev pub with_ancestors : Name → Name → List Name
with_ancestors origin n = n ∷ filter (is_above origin) (proper_ancestors n)

-- those of a set of a key: its owner with these, and where it makes a zone cut the names below that too
abbrev pub affected_by : Name → Sets → RrKey → List Name
affected_by origin m k = with_ancestors origin k.name ++ (if makes_cut origin k then flat_map (with_ancestors origin) (filter (is_at_or_above k.name) (names_of m)) else [])

abbrev pub all_affected : Name → Sets → List RrKey → List Name
all_affected origin m keys = flat_map (affected_by origin m) keys
