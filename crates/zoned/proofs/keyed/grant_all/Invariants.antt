use Rattle.std.proofs.Common.{◌≡◌, ◌++◌, length}
use Rattle.zoned.specs.Keyed.{grants_of}
use Rattle.zoned.proofs.keyed.grant_all.Given as goal

-- the grants so far, with those of the zones that are left, are all
abbrev pub invariant-loop-zone : goal.invariant-loop-zone
invariant-loop-zone l = l.access.grants.items ++ grants_of l.names l.zones l.policies ≡ l.fn.access.grants.items ++ grants_of l.names l.fn.zones l.fn.policies

abbrev pub decreases-loop-zone : goal.decreases-loop-zone
decreases-loop-zone l = length l.zones
