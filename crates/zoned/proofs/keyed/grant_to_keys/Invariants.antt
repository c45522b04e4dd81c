use Rattle.std.proofs.Common.{◌≡◌, ◌++◌, map, take}
use Rattle.std.specs.Prelude.{Some}
use Rattle.zoned.proofs.keyed.grant_to_keys.Given as goal

-- those for the names so far
abbrev pub invariant-loop-name : goal.invariant-loop-name
invariant-loop-name l = l.access.grants.items ≡ l.fn.access.grants.items ++ map (λ n. record { origin = l.origin; key = Some n }) (take l.name-index l.names)
