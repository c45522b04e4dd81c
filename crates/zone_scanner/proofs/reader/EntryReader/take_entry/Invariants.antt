use Rattle.std.proofs.Common.{◌≡◌, ◌≤◌, ◌-◌, ◌++◌, ℕ, List, length, drop}
use Rattle.zone_scanner.specs.Steps.{events_from}
use Rattle.zone_scanner.proofs.reader.EntryReader.take_entry.Given as goal

abbrev pub invariant-loop-count : goal.invariant-loop-count
invariant-loop-count l = record {
  within : l.count ≤ length l.piece;
  read : (more : List ℕ) → events_from (l.piece ++ more) l.fn.self ≡ events_from (drop l.count l.piece ++ more) l.self;
}

abbrev pub decreases-loop-count : goal.decreases-loop-count
decreases-loop-count l = length l.piece - l.count
