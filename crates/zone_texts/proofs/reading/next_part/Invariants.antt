use Rattle.std.proofs.Common.{◌≡◌, ◌-◌, ℕ, List, Option, drop, length}
use Rattle.zone_scanner.specs.Steps.{events_from}
use Rattle.zone_texts.specs.GoingOn.{fault_in}
use Rattle.zone_texts.specs.Inclusions.{Gathered, entries_read, gathered}
use Rattle.zone_texts.specs.Readings.{IsFaultless}
use Rattle.zone_texts.proofs.reading.next_part.Given as goal

abbrev pub invariant-loop-at : goal.invariant-loop-at
invariant-loop-at l = record {
  before : IsFaultless l.reading → IsFaultless l.fn.reading;
  fault : fault_in (events_from (drop l.fn.start l.text) l.fn.entries) ≡ fault_in (events_from (drop l.at l.text) l.entries);
  read : l.part.lines ≡ 0 → IsFaultless l.reading → (inner : List ℕ → Gathered → Option Gathered) (beside : List ℕ → List ℕ) →
      entries_read inner beside l.part.before (events_from (drop l.fn.start l.text) l.fn.entries) (gathered l.fn.context l.fn.reading.records.items l.fn.reading.sources.lines)
      ≡ entries_read inner beside l.part.before (events_from (drop l.at l.text) l.entries) (gathered l.context l.reading.records.items l.reading.sources.lines);
}

abbrev pub decreases-loop-at : goal.decreases-loop-at
decreases-loop-at l = length l.text - l.at
