use Rattle.std.proofs.Common.{◌≡◌, drop}
use Rattle.zone_builder.specs.GroupFaults.{first_fault}
use Rattle.zone_builder.proofs.checks.check_groups.Given as goal

-- of the groups that were passed none has a fault
abbrev pub invariant-loop-key : goal.invariant-loop-key
invariant-loop-key l = first_fault l.origin l.groups (drop l.key-index l.groups) ≡ first_fault l.origin l.groups l.groups
