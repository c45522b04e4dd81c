-- The source of synthesis of a name (RFC 4592 section 3.3.1), where a name that begins with `*` is a name like others (section 2.3)
use Rattle.std.specs.Prelude.{Bool, false, ◌||◌, cond, IsTrue, Option, None, option_map}
use Rattle.std.specs.Option.{option_map_or}
use Rattle.zone_proto.specs.Names.{Name, wildcard_under}
use Rattle.zone_map.specs.Walks.{IsChild}
use Rattle.zone_map.specs.Wildcards.{exists, closest_encloser}
use Rattle.zone_map.specs.Zones.{Sets}

-- the wildcard at the closest encloser of a name
abbrev pub source_of_synthesis : Sets → Name → Option Name
source_of_synthesis m x = option_map wildcard_under (closest_encloser m x)

-- the wildcard at the closest encloser of a name: none for a name that exists
abbrev pub asked_wildcard : Sets → Name → Option Name
asked_wildcard m x = cond (exists m x) None (source_of_synthesis m x)

-- the name exists, or the wildcard does that is asked for it, so that there is no name error (RFC 4592 section 2.2.1)
abbrev pub is_there : Sets → Name → Bool
is_there m x = exists m x || option_map_or (exists m) (source_of_synthesis m x) false

-- x is one label below the origin of its zone, which exists: so the origin is its closest encloser
pub record IsUnderApex (m : Sets) (origin x : Name) : Type 0 where
  pub child : IsChild x origin
  pub there : IsTrue (exists m origin)
