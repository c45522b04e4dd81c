use Rattle.std.proofs.Common.{◌≡◌, ◌+◌, ◌*◌, ℕ, List, Some, drop}
use Rattle.zone_scanner.specs.Entries.{events_of}
use Rattle.zone_scanner.specs.Steps.{events_from}
use Rattle.zone_texts.specs.Inclusions.{Files, entries_read, file_read, gathered}
use Rattle.zone_texts.specs.Readings.{IsFaultless}
use Rattle.zone_texts.proofs.reading.+reading.Given as goal

abbrev pub decreases-read_text : goal.decreases-read_text
decreases-read_text g l = l.depth * 2 + 1

abbrev pub decreases-include : goal.decreases-include
decreases-include g l = l.depth * 2

abbrev pub invariant-read_text-parts : goal.invariant-read_text-parts
invariant-read_text-parts g l = record {
  faultless : IsFaultless l.reading → IsFaultless l.fn.reading;
  known : g.T.Texts.known l.texts ≡ g.T.Texts.known l.fn.texts;
  begin : IsFaultless l.reading → l.fn.part.lines ≡ 0 → l.part.lines ≡ 0;
  before : l.part.before ≡ l.fn.part.before;
  read : l.fn.part.lines ≡ 0 → IsFaultless l.reading → (files : Files) → g.T.Texts.known l.fn.texts ≡ Some files →
      entries_read (file_read files l.depth) (files.beside l.name) l.fn.part.before (events_of l.text) (gathered l.fn.context l.fn.reading.records.items l.fn.reading.sources.lines)
      ≡ entries_read (file_read files l.depth) (files.beside l.name) l.fn.part.before (events_from (drop l.at l.rest) l.entries) (gathered l.context l.reading.records.items l.reading.sources.lines);
}
