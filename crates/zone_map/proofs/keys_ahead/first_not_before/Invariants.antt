use Rattle.std.proofs.Common.{◌≡◌, true, length}
use Rattle.std.specs.Prelude.{option_copied}
use Rattle.std.specs.List.{list_any}
use Rattle.std.specs.List.Sorted.{IsStrictlySortedBy}
use Rattle.std.specs.Map.{keys_of}
use Rattle.zone_proto.specs.declared.rr_key.RrKey.{RrKey}
use Rattle.zone_proto.specs.Keys.{key_cmp, key_eq}
use Rattle.zone_proto.specs.Order.{is_upto}
use Rattle.zone_map.specs.Ahead.{ahead}
use Rattle.zone_map.proofs.keys_ahead.first_not_before.Given as goal

-- the keys from there on have each key that isn't before the one that is asked for
abbrev pub invariant-loop-first : goal.invariant-loop-first
invariant-loop-first l =
    record {
      ordered : IsStrictlySortedBy key_cmp (ahead (option_copied l.first) (keys_of l.others));
      same : (q : RrKey) → is_upto key_cmp l.key q ≡ true → list_any (key_eq q) (ahead (option_copied l.first) (keys_of l.others)) ≡ list_any (key_eq q) (ahead (option_copied l.fn.first) (keys_of l.fn.others));
    }

abbrev pub decreases-loop-first : goal.decreases-loop-first
decreases-loop-first l = length (ahead (option_copied l.first) (keys_of l.others))
