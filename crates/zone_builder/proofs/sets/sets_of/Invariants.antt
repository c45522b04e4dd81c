use Rattle.std.proofs.Common.{◌≡◌, ◌++◌}
use Rattle.std.specs.Prelude.{option_and_then}
use Rattle.std.specs.List.{AllByRecursion, flat_map}
use Rattle.std.specs.List.Sorted.{IsStrictlySortedBy}
use Rattle.std.specs.Map.{keys_of, lookup}
use Rattle.std.specs.Option.{option_or}
use Rattle.std.specs.Vec.Iter.{into_iter_items}
use Rattle.zone_proto.specs.declared.rr_key.RrKey.{RrKey}
use Rattle.zone_proto.specs.Keys.{key_cmp, key_eq}
use Rattle.zone_map.specs.Zones.{last_at, AreStored}
use Rattle.zone_builder.specs.Groups.{group_warnings, AreAlone, IsGroupOf}
use Rattle.zone_builder.specs.Sets.{set_in}
use Rattle.zone_builder.proofs.sets.sets_of.Given as goal

-- under each key stands the set of its group, if that was passed, and is warned of; the keys of the groups that are left ascend, and so do those of the sets before them
abbrev pub invariant-loop-key : goal.invariant-loop-key
invariant-loop-key l = record {
  groups : AllByRecursion (λ e. IsGroupOf e.0 e.1) (into_iter_items l.key-iterator);
  alone : AreAlone (into_iter_items l.key-iterator);
  warned : l.warnings.items ++ flat_map group_warnings (into_iter_items l.key-iterator) ≡ l.fn.warnings.items ++ flat_map group_warnings l.fn.groups.items;
  ordered : IsStrictlySortedBy key_cmp (keys_of (into_iter_items l.key-iterator));
  ascending : IsStrictlySortedBy key_cmp (keys_of l.sets.items ++ keys_of (into_iter_items l.key-iterator));
  stored : AreStored l.sets.items;
  sets : (k : RrKey) → option_or (option_and_then (set_in l.serial) (lookup (key_eq k) (into_iter_items l.key-iterator))) (last_at l.sets.items k.name k.record_type.0) ≡ option_and_then (set_in l.serial) (lookup (key_eq k) l.fn.groups.items);
}
