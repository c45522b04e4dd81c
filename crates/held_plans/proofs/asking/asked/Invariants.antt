use Rattle.std.proofs.Common.{◌≡◌, ◌++◌}
use Rattle.zone_planning.specs.Frames.{asked}
use Rattle.held_plans.specs.Asking.{AreSignable}
use Rattle.held_plans.proofs.asking.asked.Given as goal

-- what is asked so far, and of the sets that are left, which can be written if all can
abbrev pub invariant-loop-set : goal.invariant-loop-set
invariant-loop-set l =
    record {
      made : l.queue.items ++ asked l.set-iterator ≡ asked l.records;
      written : AreSignable l.records → AreSignable l.set-iterator;
    }
