use Rattle.std.proofs.Common.{◌≡◌, ◌++◌}
use Rattle.shown_zones.specs.Steps.{changed}
use Rattle.shown_zones.proofs.step.changed.Given as goal

-- those so far, and those that are left
abbrev pub invariant-loop-key : goal.invariant-loop-key
invariant-loop-key l = l.changed.items ++ changed l.soa l.key-iterator l.other ≡ changed l.soa l.zone l.other
