-- Where the sets of a list stand, by owner and type
use Rattle.std.specs.Prelude.{ℕ, List, drop, cond, Option, Some}
use Rattle.std.specs.List.{AllByRecursion}
use Rattle.std.specs.Map.{lookup}
use Rattle.std.specs.Option.{IsSome}
use Rattle.zone_proto.specs.declared.rr_key.RrKey.{RrKey}
use Rattle.zone_proto.specs.Keys.{key, key_eq}
use Rattle.zone_proto.specs.Names.{lower}
use Rattle.zone_proto.specs.Sets.{RRset}

-- the key of a set's owner, in lower case, and its type
abbrev pub set_key : RRset → RrKey
set_key s = key (lower s.owner) s.record_type

-- under the key of each set but the first 16 there is a place
abbrev pub HavePlaces : List RRset → List (RrKey × ℕ) → Type 0
HavePlaces sets places = AllByRecursion (λ s. IsSome (lookup (key_eq (set_key s)) places)) (drop 16 sets)

-- the place under a key, once that of another key, or its own, is noted
abbrev pub place_after : RrKey → ℕ → List (RrKey × ℕ) → RrKey → Option ℕ
place_after noted place places k = cond (key_eq noted k) (Some place) (lookup (key_eq k) places)
