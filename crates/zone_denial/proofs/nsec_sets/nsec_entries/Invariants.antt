use Rattle.std.proofs.Common.{map, length, drop, ◌-◌}
use Rattle.zone_denial.proofs.Sets.Linking.{Linking}
use Rattle.zone_denial.proofs.nsec_sets.nsec_entries.Given as goal

-- the sets of the names passed are made
abbrev pub invariant-loop-start : goal.invariant-loop-start
invariant-loop-start l = Linking l.origin (map (λ k. k.now) l.keys) l.ttl l.serial l.entries.items (map (λ k. k.now) (drop l.start l.keys))

abbrev pub decreases-loop-start : goal.decreases-loop-start
decreases-loop-start l = length l.keys - l.start
