use Rattle.zone_file.specs.Inputs.{GoesOn}
use Rattle.zone_file.proofs.input.read_to_end.Given as goal

abbrev pub invariant-loop : goal.invariant-loop
invariant-loop g l =
    GoesOn (g.R.Read.remaining l.initial.input) (g.R.Read.remaining l.input) l.initial.records.items l.records.items l.initial.reader l.reader
