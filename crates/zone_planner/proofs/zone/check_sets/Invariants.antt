use Rattle.std.specs.Prelude.{option_map}
use Rattle.zone_planner.proofs.Passes.{IsChecking}
use Rattle.zone_planner.proofs.zone.check_sets.Given as goal

abbrev pub invariant-loop-key : goal.invariant-loop-key
invariant-loop-key l = IsChecking l.origin l.records l.key-iterator (option_map (λ a. a.now) l.dname)
