use Rattle.std.proofs.Common.{◌≡◌}
use Rattle.shown_zones.proofs.Copied.{so_far}
use Rattle.shown_zones.proofs.copying.with_records.Given as goal

abbrev pub invariant-loop-stored : goal.invariant-loop-stored
invariant-loop-stored l = l.shown ≡ so_far l.set l.stored-index
