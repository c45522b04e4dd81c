use Rattle.std.proofs.Common.{◌≡◌, ◌++◌}
use Rattle.std.specs.List.{AllByRecursion}
use Rattle.std.specs.Map.{keys_of}
use Rattle.std.specs.Vec.Iter.{into_iter_items}
use Rattle.zone_proto.specs.declared.rr_key.RrKey.{RrKey}
use Rattle.zone_builder.specs.Groups.{all_records_in, all_signatures_in, AreNamed, AreOrdered, AreSorted, AreUpTo}
use Rattle.zone_builder.proofs.groups.joined.Given as goal

-- under each key stands what all groups that were passed have, and none of these comes after one that is left
abbrev pub invariant-loop-key : goal.invariant-loop-key
invariant-loop-key l = record {
  named : AreNamed l.joined.items;
  ordered : AreOrdered l.joined.items;
  named_left : AreNamed (into_iter_items l.key-iterator);
  sorted : AreSorted (into_iter_items l.key-iterator);
  before : AllByRecursion (λ (q : RrKey). AreUpTo l.joined.items q) (keys_of (into_iter_items l.key-iterator));
  records : (k : RrKey) → all_records_in l.joined.items k ++ all_records_in (into_iter_items l.key-iterator) k ≡ all_records_in l.fn.groups.items k;
  signatures : (k : RrKey) → all_signatures_in l.joined.items k ++ all_signatures_in (into_iter_items l.key-iterator) k ≡ all_signatures_in l.fn.groups.items k;
}
