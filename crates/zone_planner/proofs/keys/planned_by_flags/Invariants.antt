use Rattle.std.proofs.Common.{◌≡◌, map, take}
use Rattle.zone_planner.specs.Keys.{by_flags}
use Rattle.zone_planner.proofs.keys.planned_by_flags.Given as goal

abbrev pub invariant-loop-key : goal.invariant-loop-key
invariant-loop-key l = l.planned.items ≡ map (by_flags l.keys l.asks_parent) (take l.key-index l.keys)
