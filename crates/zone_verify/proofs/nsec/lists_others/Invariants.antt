use Rattle.std.proofs.Common.{◌≤◌}
use Rattle.zone_verify.proofs.nsec.lists_others.Given as goal

-- (what was passed says nothing)
abbrev pub invariant-loop-record_type : goal.invariant-loop-record_type
invariant-loop-record_type l = 0 ≤ l.record_type-index
