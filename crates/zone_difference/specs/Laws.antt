-- What differences lead to
use Rattle.std.specs.Prelude.{◌≡◌, true, List, [], ◌∷◌, Result, Ok}
use Rattle.std.specs.Map.{lookup}
use Rattle.std.specs.List.{AllByRecursion}
use Rattle.zone_proto.specs.declared.rr_key.RrKey.{RrKey}
use Rattle.zone_proto.specs.Keys.{key_eq}
use Rattle.zone_map.specs.Zones.{Sets, IsZone}
use Rattle.zone_difference.specs.declared.error.DifferenceError.{DifferenceError}
use Rattle.zone_difference.specs.Differences.{◌>>=◌, applied, same_at, sets_lacking}

-- two zones have equal sets under each key, names ignoring case
abbrev pub SameZone : Sets → Sets → Type 0
SameZone m n = (k : RrKey) → same_at (lookup (key_eq k) m) (lookup (key_eq k) n) ≡ true

-- a zone that is made, and what it is like
abbrev pub MakesSame : Result Sets DifferenceError → Sets → Type 0
MakesSame made z = (n : Sets) × (made ≡ Ok n) × IsZone n × SameZone n z

-- the difference from one zone to another leads from the first to the other
abbrev pub DifferencesLead : Type 0
DifferencesLead = (a b m : Sets) → IsZone a → IsZone b → IsZone m → SameZone m a → MakesSame (applied m (sets_lacking a b) (sets_lacking b a)) b

-- the differences from each zone to the next, applied one after the other
unfoldable pub chained : Sets → Sets → List Sets → Result Sets DifferenceError
chained m a [] = Ok m
chained m a (b ∷ bs) = applied m (sets_lacking a b) (sets_lacking b a) >>= λ n. chained n b bs

-- the last of some zones
abbrev pub last_of : Sets → List Sets → Sets
last_of a [] = a
last_of a (b ∷ bs) = last_of b bs

-- they lead from the first zone to the last
abbrev pub ChainsLead : Type 0
ChainsLead = (a m : Sets) (bs : List Sets) → IsZone a → IsZone m → AllByRecursion IsZone bs → SameZone m a → MakesSame (chained m a bs) (last_of a bs)
