-- Laws of how many searches of the zone's map are made for the names of a response
use Rattle.std.specs.Prelude.{◌+◌, ◌*◌, ◌≤◌, length, IsTrue}
use Rattle.zone_proto.specs.Names.{Name, is_at_or_above}
use Rattle.zone_proto.specs.Types.{SOA}
use Rattle.zone_map.specs.Zones.{Sets, owns}
use Rattle.zone_response.specs.Paths.{path_names}
use Rattle.zone_response.specs.Queries.{Inquiry}
use Rattle.zone_response.specs.Searches.{names_between, most_for_name}

-- for a name of a zone, 12, and five for each name of the zone's tree that is between the origin and the name
abbrev pub SearchesAreFew : Type 0
SearchesAreFew = (origin : Name) (m : Sets) (x : Name) → IsTrue (owns m origin SOA) → IsTrue (is_at_or_above origin x) → most_for_name origin m x ≤ 12 + 5 * length (names_between origin m x)

-- for eight names at most
abbrev pub NamesAreFew : Type 0
NamesAreFew = (q : Inquiry) (x : Name) → length (path_names q x) ≤ 8
