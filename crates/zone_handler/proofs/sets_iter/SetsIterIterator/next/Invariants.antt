use Rattle.std.proofs.Common.{◌≡◌, ◌++◌, reverse, length}
use Rattle.zone_handler.specs.Sets.{sets_records}
use Rattle.zone_handler.proofs.sets_iter.SetsIterIterator.next.Given as goal

-- what is left is what was left at the call
abbrev pub invariant-loop-record : goal.invariant-loop-record
invariant-loop-record l =
    l.self-inside.current ++ sets_records l.self-inside.options (reverse l.self-inside.sets.now) ≡ l.fn.self

abbrev pub decreases-loop-record : goal.decreases-loop-record
decreases-loop-record l = length l.self-inside.sets.now
