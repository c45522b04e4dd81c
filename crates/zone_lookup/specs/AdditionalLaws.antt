-- Laws of the definitions of additional records
use Rattle.std.specs.Prelude.{◌≡◌, ℕ, ◌+◌, ◌*◌, ◌≤◌, Bool, ◌&&◌, not, List, length, Option, IsFalse}
use Rattle.std.specs.List.{Contains, IsDistinct, AllByRecursion, list_any}
use Rattle.zone_proto.specs.Names.{Name, name_eq}
use Rattle.zone_proto.specs.Sets.{RRset}
use Rattle.zone_map.specs.Zones.{Sets, IsZone}
use Rattle.zone_map.specs.Chains.{are_distinct}
use Rattle.zone_map.specs.Fronts.{IsLongestFront}
use Rattle.zone_lookup.specs.Runs.{along}
use Rattle.zone_lookup.specs.Additionals.{run_types, leads_to, AreSearchedNames, AreAdditionals, AreSearches, alias_sets}

-- a run searches exactly one list of names
abbrev pub OneRun : Type 0
OneRun = (m : Sets) (signed : Bool) (seen : List Name) (t : ℕ) (from : Option Name)
    → (names : List Name) × AreSearchedNames m signed seen t from names × ((others : List Name) → AreSearchedNames m signed seen t from others → others ≡ names)

-- it searches no name twice, and none that was seen before
abbrev pub NoNameTwice : Type 0
NoNameTwice = (m : Sets) (signed : Bool) (seen : List Name) (t : ℕ) (from : Option Name) (names : List Name) → AreSearchedNames m signed seen t from names
    → IsDistinct name_eq names × AllByRecursion (λ n. IsFalse (list_any (name_eq n) seen)) names

-- names of which none comes twice, and none was seen before
abbrev pub are_new : List Name → List Name → Bool
are_new seen names = are_distinct names && not (list_any (λ n. list_any (name_eq n) seen) names)

-- however far the first targets are followed, a run searches the longest front of them in which no name comes twice and none was seen before
abbrev pub RunIsLongestFront : Type 0
RunIsLongestFront = (m : Sets) (signed : Bool) (seen : List Name) (t : ℕ) (from : Option Name) (names : List Name) → AreSearchedNames m signed seen t from names
    → (k : ℕ) → length names ≤ k → IsLongestFront (are_new seen) (along (leads_to m signed t) k from) names

-- it searches at most one name more than the zone has sets of type CNAME and ANAME
abbrev pub RunIsShort : Type 0
RunIsShort = (m : Sets) → IsZone m → (signed : Bool) (seen : List Name) (u t : ℕ) → Contains (run_types u) t → (from : Option Name) (names : List Name) → AreSearchedNames m signed seen t from names
    → length names ≤ 1 + alias_sets m

-- and all runs of a query together at most that for each of them
abbrev pub SearchesAreFew : Type 0
SearchesAreFew = (m : Sets) → IsZone m → (signed : Bool) (n : Name) (t : ℕ) (from : Name) (searches : ℕ) → AreSearches m signed n t from searches → searches ≤ length (run_types t) * (1 + alias_sets m)

-- there is exactly one list of additional sets
abbrev pub OneList : Type 0
OneList = (m : Sets) (signed : Bool) (n : Name) (t : ℕ) (from : Name) → (sets : List RRset) × AreAdditionals m signed n t from sets × ((others : List RRset) → AreAdditionals m signed n t from others → others ≡ sets)
