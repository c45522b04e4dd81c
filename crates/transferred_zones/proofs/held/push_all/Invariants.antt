use Rattle.std.proofs.Common.{◌≡◌, ◌++◌, map, take}
use Rattle.transferred_zones.specs.HeldRecords.{with_ttl}
use Rattle.transferred_zones.proofs.held.push_all.Given as goal

-- the copies of those so far stand behind the others
abbrev pub invariant-loop-one : goal.invariant-loop-one
invariant-loop-one l = l.records.items ≡ l.initial.records.items ++ map (with_ttl l.ttl) (take l.one-index l.standing)
