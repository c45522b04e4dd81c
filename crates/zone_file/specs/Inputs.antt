-- What is read of an input, read by read
use Rattle.std.specs.Prelude.{◌≡◌, ℕ, List, ◌++◌, map, Option, Some}
use Rattle.zone_file.specs.declared.placed.PlacedRecord.{PlacedRecord}
use Rattle.zone_file.specs.Zones.{Outcome, Read, Standing, outcomes_from}

-- these records, and what is read of a text behind them
abbrev pub with_rest : List PlacedRecord → List ℕ → Standing → List Outcome
with_rest rs text z = map Read rs ++ outcomes_from text z

-- Of an input it is known which octets it has left, or it isn't. If it is before a read it is behind the read, and what is read
-- of all of it is the same: these records and the rest behind records `rs`, and those and the rest behind records `qs`.
abbrev pub GoesOn : Option (List ℕ) → Option (List ℕ) → List PlacedRecord → List PlacedRecord → Standing → Standing → Type 0
GoesOn old new rs qs y z =
    (text : List ℕ) → old ≡ Some text → ((left : List ℕ) × (new ≡ Some left) × (with_rest rs text y ≡ with_rest qs left z))
