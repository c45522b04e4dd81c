use Rattle.std.proofs.Common.{◌≡◌, ◌++◌}
use Rattle.shown_zones.specs.Shown.{shown}
use Rattle.shown_zones.proofs.copying.entries_of.Given as goal

abbrev pub invariant-loop-key : goal.invariant-loop-key
invariant-loop-key l = l.entries.items ++ shown l.key-iterator ≡ shown l.zone
