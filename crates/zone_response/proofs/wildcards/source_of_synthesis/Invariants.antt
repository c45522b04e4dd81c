use Rattle.std.proofs.Common.{◌≡◌, ◌+◌, ◌≤◌, length}
use Rattle.std.specs.Prelude.{find}
use Rattle.zone_proto.specs.Names.{suffixes, IsAbove}
use Rattle.zone_map.specs.Wildcards.{exists, closest_encloser}
use Rattle.zone_response.specs.Searches.{most_for_wildcard}
use Rattle.zone_response.proofs.SearchCounts.{left_searches}
use Rattle.zone_response.proofs.wildcards.source_of_synthesis.Given as goal

-- the names that were passed don't exist, and the key is the least of the longest of the others
abbrev pub invariant-loop-above : goal.invariant-loop-above
invariant-loop-above g l = record {
  left : find (exists l.inner.records) (suffixes l.above.name) ≡ closest_encloser l.inner.records l.name;
  above : IsAbove l.above.name l.name;
  type_zero : l.above.record_type.0 ≡ 0;
  counted : l.searches + left_searches l.inner.records l.above.name ≤ l.fn.searches + most_for_wildcard l.inner.records l.name;
}

abbrev pub decreases-loop-above : goal.decreases-loop-above
decreases-loop-above g l = length l.above.name
