use Rattle.std.proofs.Common.{◌≡◌, ◌++◌, map, drop}
use Rattle.zone_planner.specs.declared.keys.PlannedKey.{PlannedKey}
use Rattle.signed_changes.proofs.planning.keys_of.Given as goal

-- those so far, and those that are left, are all
abbrev pub invariant-loop-one : goal.invariant-loop-one
invariant-loop-one l = l.keys.items ++ map (λ (k : PlannedKey). k.key) (drop l.one-index l.planned) ≡ map (λ (k : PlannedKey). k.key) l.planned
