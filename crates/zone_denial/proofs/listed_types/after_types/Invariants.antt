use Rattle.std.proofs.Common.{◌≡◌, ◌++◌, map, take}
use Rattle.zone_denial.proofs.Sets.TypesPassed.{lent_types}
use Rattle.zone_denial.proofs.listed_types.after_types.Given as goal

-- the types of the keys passed are passed
abbrev pub invariant-loop-key : goal.invariant-loop-key
invariant-loop-key l = map (λ t. t.0) l.types ≡ lent_types (take l.key-index l.keys) ++ map (λ t. t.0) l.left
