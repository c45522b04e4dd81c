use Rattle.std.proofs.Common.{◌≡◌, map, take}
use Rattle.update_calls.proofs.rules.types_of.Given as goal

-- the types so far have the numbers so far
abbrev pub invariant-loop-number : goal.invariant-loop-number
invariant-loop-number l = map (λ t. t.0) l.types.items ≡ take l.number-index l.numbers
