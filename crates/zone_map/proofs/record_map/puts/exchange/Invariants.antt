use Rattle.std.proofs.Common.{◌≡◌, ◌+◌, ◌≤◌, length, vec_len}
use Rattle.std.specs.Prelude.{vec_capacity}
use Rattle.std.specs.List.Sorted.{IsStrictlySortedBy}
use Rattle.std.specs.Map.{keys_of}
use Rattle.std.specs.Vec.Iter.{into_iter_items}
use Rattle.zone_proto.specs.Keys.{key_cmp}
use Rattle.zone_map.specs.Puts.{with_exchanged, with_before}
use Rattle.zone_map.proofs.record_map.puts.exchange.Given as goal

-- with what was there the sets are as they were, and with those that are left all are exchanged; there is room for
-- these
abbrev pub invariant-loop-key : goal.invariant-loop-key
invariant-loop-key l =
    record {
      room : vec_len l.exchanged + length (into_iter_items l.key-iterator) ≤ vec_capacity l.exchanged;
      ordered : IsStrictlySortedBy key_cmp (keys_of l.sets);
      before : with_before l.sets l.exchanged.items ≡ with_before l.fn.sets l.fn.exchanged.items;
      put : with_exchanged l.sets (into_iter_items l.key-iterator) ≡ with_exchanged l.fn.sets l.fn.common.items;
    }
