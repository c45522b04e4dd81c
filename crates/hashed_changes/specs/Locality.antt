-- On what the NSEC3 set of a name depends: on what the name owns, on the zone cuts above it, and on what is below it
use Rattle.std.specs.Prelude.{◌≡◌, ℕ, false, ◌==◌}
use Rattle.zone_proto.specs.Names.{Name}
use Rattle.zone_proto.specs.Types.{NSEC3}
use Rattle.zone_map.specs.Zones.{Sets, owns}

-- a name owns the same types before a change and after it, NSEC3 aside
abbrev pub OwnsSame : Sets → Sets → Name → Type 0
OwnsSame m after n = (t : ℕ) → (t == NSEC3) ≡ false → owns after n t ≡ owns m n t
