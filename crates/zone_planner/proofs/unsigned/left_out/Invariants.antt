use Rattle.std.specs.Prelude.{option_map}
use Rattle.zone_planner.proofs.Passes.{IsLeaving}
use Rattle.zone_planner.proofs.unsigned.left_out.Given as goal

abbrev pub invariant-loop-key : goal.invariant-loop-key
invariant-loop-key l = IsLeaving l.origin l.records l.key-iterator (option_map (λ a. a.now) l.cut) (option_map (λ a. a.now) l.no_cut) l.keys.items
