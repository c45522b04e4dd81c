use Rattle.std.proofs.Common.{Some, take}
use Rattle.zone_denial.proofs.Sets.CirclesMade.{CircleSoFar}
use Rattle.zone_denial.proofs.nsec3_sets.with_circle.Given as goal

-- the entries hold the sets of the names passed, whose owners are names
abbrev pub invariant-loop-i : goal.invariant-loop-i
invariant-loop-i l = CircleSoFar l.origin l.parameters l.ttl l.serial l.held (Some l.fn.announced.1) (take l.i l.held) l.entries.items
