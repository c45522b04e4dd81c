-- How many searches of the zone's map are made for the names of a response. Each finds a place in the order of the keys, from which sets are read one after the other
use Rattle.std.specs.Prelude.{ℕ, ◌+◌, ◌*◌, ◌&&◌, not, List, filter, length}
use Rattle.std.specs.List.{sum_by}
use Rattle.zone_proto.specs.Names.{Name, is_above, proper_ancestors}
use Rattle.zone_map.specs.Wildcards.{exists}
use Rattle.zone_map.specs.Zones.{Sets, owns_at_or_below}
use Rattle.zone_response.specs.Paths.{path_names}
use Rattle.zone_response.specs.Queries.{Zone, Query, Inquiry, inquiry}

-- the names between an origin and x that are in the zone's tree: they, or names below them, own sets (RFC 4592 section 2.2.2)
abbrev pub names_between : Name → Sets → Name → List Name
names_between origin m x = filter (λ a. is_above origin a && owns_at_or_below m a) (proper_ancestors x)

-- the ancestors of x that are in the tree and don't exist, since sets of denial, NSEC or NSEC3, are all that is at or below them
abbrev pub names_of_denial : Sets → Name → List Name
names_of_denial m x = filter (λ a. owns_at_or_below m a && not (exists m a)) (proper_ancestors x)

-- for a source of synthesis: whether the parent exists, and for each ancestor that may exist then two that find it, and whether it does
abbrev pub most_for_wildcard : Sets → Name → ℕ
most_for_wildcard m x = 4 + 3 * length (names_of_denial m x)

-- for a name of a search: two for each name that is between, and some for the name and for the wildcard that is asked for it. How many labels the name has is of no account
abbrev pub most_for_name : Name → Sets → Name → ℕ
most_for_name origin m x = 8 + 2 * length (names_between origin m x) + most_for_wildcard m x

-- for all names of a search
abbrev pub most_for_path : Inquiry → Name → ℕ
most_for_path q x = sum_by (most_for_name q.origin q.sets) (path_names q x)

-- for a response: one for what is at the origin, and those for the names that are searched
abbrev pub most_searches : Zone → Query → ℕ
most_searches z q = 1 + most_for_path (inquiry z q) q.name
