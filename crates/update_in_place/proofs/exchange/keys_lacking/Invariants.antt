use Rattle.std.proofs.Common.{◌≡◌, ◌++◌}
use Rattle.update_in_place.specs.Parts.{keys_lacking}
use Rattle.update_in_place.proofs.exchange.keys_lacking.Given as goal

-- those so far, and those that are left
abbrev pub invariant-loop-key : goal.invariant-loop-key
invariant-loop-key l = l.keys.items ++ keys_lacking l.key-iterator l.other ≡ keys_lacking l.zone l.other
