-- The keys that are left in a pass over a map
use Rattle.std.specs.Prelude.{List, [], ◌∷◌, Option, Some, None}
use Rattle.zone_proto.specs.declared.rr_key.RrKey.{RrKey}

-- the first one, and the others behind it; none if there is no first one
abbrev pub ahead : Option RrKey → List RrKey → List RrKey
ahead None others = []
ahead (Some first) others = first ∷ others
