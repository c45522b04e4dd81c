use Rattle.std.proofs.Common.{◌≤◌}
use Rattle.zone_check.proofs.zone.tell_loaded.Given as goal

-- (what was passed says nothing)
abbrev pub invariant-loop-warning : goal.invariant-loop-warning
invariant-loop-warning g l = 0 ≤ l.warning-index
