use Rattle.std.proofs.Common.{◌≡◌, [], drop}
use Rattle.std.specs.Prelude.{fold}
use Rattle.transfer_reading.specs.Differences.{with_last}
use Rattle.transfer_reading.proofs.differences.held_of.Given as goal

-- what is left leads to where all lead
abbrev pub invariant-loop-given : goal.invariant-loop-given
invariant-loop-given l = fold with_last l.held.entries (drop l.given-index l.records) ≡ fold with_last [] l.records
