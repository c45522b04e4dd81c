-- The zones of a list by their origins
use Rattle.std.specs.Prelude.{◌≡◌, ℕ, suc, cond, List, [], ◌∷◌, map, Option, Some, None, option_map}
use Rattle.std.specs.BTreeMap.{BTreeMap, get, IsOrdered}
use Rattle.zone_proto.specs.Names.{Name, name_cmp, name_eq}
use Rattle.zone_response.specs.declared.question.ServedZone.{ServedZone}

-- the origins of zones, in their order
abbrev pub origins : {S H : Type 0} → List (ServedZone S H) → List Name
origins {S} {H} zs = map (λ (z : ServedZone S H). z.origin.now) zs

-- the first index of a name among names
abbrev pub place_of : List Name → Name → Option ℕ
place_of [] x = None
place_of (n ∷ ns) x = cond (name_eq n x) (Some 0) (option_map suc (place_of ns x))

-- under each origin is the index of its first zone
pub record AreFirstPlaces {S H : Type 0} (zs : List (ServedZone S H)) (places : BTreeMap Name ℕ) : Type 0 where
  pub ordered : IsOrdered name_cmp places
  pub first : (x : Name) → get name_cmp places x ≡ place_of (origins zs) x
