use Rattle.std.proofs.Common.{◌≡◌, ◌++◌, drop}
use Rattle.held_plans.proofs.held_plan.keys_again.Given as goal

abbrev pub invariant-loop-key : goal.invariant-loop-key
invariant-loop-key l = l.copies.items ++ drop l.key-index l.keys ≡ l.keys
