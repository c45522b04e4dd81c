use Rattle.std.proofs.Common.{◌≡◌, ◌++◌, map, drop}
use Rattle.zone_proto.specs.Keys.{key}
use Rattle.zone_proto.specs.Names.{Name}
use Rattle.zone_proto.specs.Types.{NSEC}
use Rattle.signed_changes.proofs.renewing.nsec_keys.Given as goal

-- those so far, and those of the names that are left, are all
abbrev pub invariant-loop-name : goal.invariant-loop-name
invariant-loop-name l = l.keys.items ++ map (λ (n : Name). key n NSEC) (drop l.name-index l.names) ≡ map (λ (n : Name). key n NSEC) l.names
