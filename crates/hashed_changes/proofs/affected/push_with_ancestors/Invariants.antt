use Rattle.std.proofs.Common.{◌≡◌, ◌++◌, length}
use Rattle.std.specs.Prelude.{filter}
use Rattle.zone_proto.specs.Names.{is_above, proper_ancestors}
use Rattle.hashed_changes.specs.AffectedNames.{with_ancestors}
use Rattle.hashed_changes.proofs.affected.push_with_ancestors.Given as goal

-- those so far, and the ancestors above the one that was reached, are all
abbrev pub invariant-loop-ancestor : goal.invariant-loop-ancestor
invariant-loop-ancestor l = l.names.items ++ filter (is_above l.origin) (proper_ancestors l.ancestor) ≡ l.fn.names.items ++ with_ancestors l.origin l.name

abbrev pub decreases-loop-ancestor : goal.decreases-loop-ancestor
decreases-loop-ancestor l = length l.ancestor
