use Rattle.std.proofs.Common.{◌≡◌, length}
use Rattle.std.specs.Prelude.{find}
use Rattle.zone_proto.specs.Names.{suffixes}
use Rattle.zone_map.specs.Walks.{IsChild}
use Rattle.zone_map.specs.Wildcards.{exists}
use Rattle.zone_map.proofs.direct.nearest_existing.Given as goal

-- the names that were passed don't exist, the key is the least of what is left, and the other name is one label longer
abbrev pub invariant-loop-here : goal.invariant-loop-here
invariant-loop-here l = record {
  nearest : find (exists l.records) (suffixes l.key.name) ≡ find (exists l.records) (suffixes l.initial.key.name);
  longer : IsChild l.longer l.key.name;
  type_zero : l.key.record_type.0 ≡ 0;
}

abbrev pub decreases-loop-here : goal.decreases-loop-here
decreases-loop-here l = length l.key.name
