use Rattle.std.proofs.Common.{◌≡◌, map, take}
use Rattle.zoned.specs.Zones.{policy_of}
use Rattle.zoned.proofs.zones.policies.Given as goal

-- those of the zones so far
abbrev pub invariant-loop-zone : goal.invariant-loop-zone
invariant-loop-zone l = l.policies.items ≡ map policy_of (take l.zone-index l.wanted)
