use Rattle.std.proofs.Common.{◌≡◌, ◌++◌, drop}
use Rattle.zone_planning.specs.Frames.{asked_from, asked_of}
use Rattle.held_plans.proofs.asking.push_asked.Given as goal

-- what is asked so far, and by the signatures that are left
abbrev pub invariant-loop-record : goal.invariant-loop-record
invariant-loop-record l = l.queue.items ++ asked_from l.set (drop l.record-index l.record-items) ≡ l.fn.queue.items ++ asked_of l.set
