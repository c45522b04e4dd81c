use Rattle.std.proofs.Common.{map, length, drop, ◌-◌}
use Rattle.zone_denial.specs.Nsec3Nodes.{node_of}
use Rattle.zone_denial.proofs.Names.Naming.{Naming}
use Rattle.zone_denial.proofs.nsec3_names.nsec3_names.Given as goal

-- the names of the keys passed are listed
abbrev pub invariant-loop-start : goal.invariant-loop-start
invariant-loop-start l = Naming l.origin l.records l.opt_out (map (λ k. k.now) l.keys) (map node_of l.names.items) l.last (map (λ k. k.now) (drop l.start l.keys))

abbrev pub decreases-loop-start : goal.decreases-loop-start
decreases-loop-start l = length l.keys - l.start
