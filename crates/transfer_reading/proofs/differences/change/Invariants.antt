use Rattle.std.proofs.Common.{◌≡◌, true}
use Rattle.std.specs.Vec.Iter.{into_iter_items}
use Rattle.transfer_reading.specs.Differences.{changed}
use Rattle.transfer_reading.proofs.differences.change.Given as goal

-- what is left leads to where all lead
abbrev pub invariant-loop-given : goal.invariant-loop-given
invariant-loop-given l =
    changed l.origin l.is_given l.held.entries (into_iter_items l.given-iterator) ≡ changed l.fn.origin true l.fn.held.entries l.fn.records.items
