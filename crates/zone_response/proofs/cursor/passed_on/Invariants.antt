use Rattle.std.proofs.Common.{◌≡◌}
use Rattle.std.specs.List.Sorted.{IsStrictlySortedBy}
use Rattle.std.specs.Map.{keys_of}
use Rattle.zone_proto.specs.Keys.{key_cmp}
use Rattle.zone_response.specs.NodeSets.{sets_from}
use Rattle.zone_response.proofs.cursor.passed_on.Given as goal

-- all sets from the key on are left
abbrev pub invariant-loop-count : goal.invariant-loop-count
invariant-loop-count l = record { ordered : IsStrictlySortedBy key_cmp (keys_of l.rest); all : sets_from l.rest l.least ≡ sets_from l.sets l.least }
