use Rattle.std.proofs.Common.{◌≡◌}
use Rattle.std.specs.Prelude.{fold}
use Rattle.std.specs.List.{AllByRecursion}
use Rattle.std.specs.Vec.Iter.{into_iter_items}
use Rattle.zone_proto.specs.Sets.{RRset}
use Rattle.zone_proto.specs.declared.rr_key.RrKey.{RrKey}
use Rattle.zone_map.specs.Zones.{IsStoredAt}
use Rattle.update_in_place.specs.Parts.{with_replaced}
use Rattle.update_in_place.proofs.exchange.replace_all.Given as goal

-- each of those that are left is under its key, and with these the sets become what they are with all
abbrev pub invariant-loop-key : goal.invariant-loop-key
invariant-loop-key l = record {
  stored : AllByRecursion (λ (e : RrKey × RRset). IsStoredAt e.0.name e.0.record_type.0 e.1) (into_iter_items l.key-iterator);
  left : fold with_replaced l.zone (into_iter_items l.key-iterator) ≡ fold with_replaced l.fn.zone l.fn.sets.items;
}
