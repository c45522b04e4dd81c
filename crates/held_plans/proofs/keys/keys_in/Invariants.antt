use Rattle.std.proofs.Common.{◌≡◌, drop}
use Rattle.held_plans.specs.Keys.{keys_in}
use Rattle.held_plans.proofs.KeyLists.{behind}
use Rattle.held_plans.proofs.keys.keys_in.Given as goal

-- the keys so far, and those of the texts that are left
abbrev pub invariant-loop-text : goal.invariant-loop-text
invariant-loop-text l = behind l.keys.items (drop l.text-index l.texts) ≡ keys_in l.texts
