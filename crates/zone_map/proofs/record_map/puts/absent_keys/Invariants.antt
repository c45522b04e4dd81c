use Rattle.std.proofs.Common.{◌≡◌, ◌++◌}
use Rattle.std.specs.Prelude.{filter, not}
use Rattle.std.specs.List.{AllByRecursion, list_any}
use Rattle.std.specs.List.Sorted.{IsStrictlySortedBy}
use Rattle.std.specs.Map.{keys_of}
use Rattle.zone_proto.specs.Keys.{key_cmp, key_eq}
use Rattle.zone_map.proofs.record_map.puts.absent_keys.Given as goal

-- the keys that are left ascend, and the pass over the other map still has each of them that is there; the absent ones so far
-- and those that are left are all
abbrev pub invariant-loop-key : goal.invariant-loop-key
invariant-loop-key l =
    record {
      ordered : IsStrictlySortedBy key_cmp l.key-iterator;
      seen : AllByRecursion (λ q. list_any (key_eq q) l.ahead ≡ list_any (key_eq q) (keys_of l.sets)) l.key-iterator;
      absent : l.absent.items ++ filter (λ k. not (list_any (key_eq k) (keys_of l.sets))) l.key-iterator ≡ filter (λ k. not (list_any (key_eq k) (keys_of l.sets))) (keys_of l.more.entries);
    }
