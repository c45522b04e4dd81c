-- Places on the circle of NSEC3 sets, and which comes next after an owner
use Rattle.std.specs.Prelude.{◌≡◌, ◌++◌, Bool, true, false, cond, List, [], map, filter_map, Option, Some, None, option_to_list, is_some}
use Rattle.std.specs.List.{Contains}
use Rattle.std.specs.List.Sorted.{IsSortedByKey}
use Rattle.zone_proto.specs.Names.{Name, name_cmp}
use Rattle.zone_denial.specs.Covering.{covers}
use Rattle.hashed_changes.specs.declared.places.Place.{Place}
use Rattle.hashed_changes.specs.declared.places.Affected.{Affected}

-- the owners of affected names
abbrev pub owners_of : List Affected → List Name
owners_of affected = map (λ (a : Affected). a.place.owner) affected

-- the places of those that get sets
abbrev pub fresh_places : List Affected → List Place
fresh_places affected = filter_map (λ (a : Affected). cond (is_some a.types) (Some a.place) None) affected

-- they stand in the order of their owners, and so do places
abbrev pub AreInOrder : List Affected → Type 0
AreInOrder affected = IsSortedByKey (λ (a : Affected). a.place.owner) name_cmp affected

abbrev pub ArePlacesInOrder : List Place → Type 0
ArePlacesInOrder places = IsSortedByKey (λ (p : Place). p.owner) name_cmp places

-- places, and one more in front
abbrev pub places_of : Option Place → List Place → List Place
places_of kept fresh = option_to_list kept ++ fresh

-- a place comes before another on the way up from an owner
abbrev pub comes_before : Name → Place → Option Place → Bool
comes_before o p None = true
comes_before o p (Some q) = covers name_cmp o q.owner p.owner

-- of some places one comes next after an owner: none of them is between; or there are none
abbrev pub IsNextPlace : Name → List Place → Option Place → Type 0
IsNextPlace o places None = places ≡ []
IsNextPlace o places (Some z) = Contains places z × ((w : Place) → Contains places w → covers name_cmp o z.owner w.owner ≡ false)
