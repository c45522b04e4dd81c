use Rattle.std.proofs.Common.{◌≡◌, ◌++◌, ℕ, List, length}
use Rattle.std.specs.Prelude.{map}
use Rattle.zone_file.specs.Zones.{Read, outcomes_from}
use Rattle.zone_file.proofs.whole.take_records.Given as goal

abbrev pub invariant-loop-rest : goal.invariant-loop-rest
invariant-loop-rest l =
    (more : List ℕ) → map Read l.initial.records.items ++ outcomes_from (l.piece ++ more) l.initial.reader
    ≡ map Read l.records.items ++ outcomes_from (l.rest ++ more) l.reader

abbrev pub decreases-loop-rest : goal.decreases-loop-rest
decreases-loop-rest l = length l.rest
