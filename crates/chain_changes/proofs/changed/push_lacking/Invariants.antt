use Rattle.std.proofs.Common.{◌≡◌, ◌++◌}
use Rattle.update_in_place.specs.Parts.{keys_lacking}
use Rattle.chain_changes.proofs.changed.push_lacking.Given as goal

-- those so far, and those that are left
abbrev pub invariant-loop-key : goal.invariant-loop-key
invariant-loop-key l = l.keys.items ++ keys_lacking l.key-iterator l.other ≡ l.fn.keys.items ++ keys_lacking l.sets l.other
