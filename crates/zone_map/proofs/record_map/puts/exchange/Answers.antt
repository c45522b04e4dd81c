use Rattle.std.proofs.Common.{◌≡◌, ◌∷◌, length, ap, sym, ◌∙◌, subst, arith}
use Rattle.std.specs.Prelude.{Some, None}
use Rattle.std.specs.List.Sorted.{IsStrictlySortedBy}
use Rattle.std.specs.Map.{lookup, keys_of}
use Rattle.std.specs.Vec.Iter.{into_iter_items}
use Rattle.zone_proto.specs.Keys.{key_cmp, key_eq}
use Rattle.zone_frozen.proofs.UnderKeys.{sorted_set}
use Rattle.zone_map.specs.Puts.{with_exchanged, with_before}
use Rattle.zone_map.specs.Zones.{Sets}
use Rattle.zone_map.proofs.Putting.{set_value_absent, undone_more}
use Rattle.zone_map.proofs.record_map.puts.exchange.Goals as goal

pub loop-key-preserved-in-Some-replace : goal.loop-key-preserved-in-Some-replace
loop-key-preserved-in-Some-replace c =
    let m = c.loop-key.sets in
    let k = c.in-Some.key in
    let left = into_iter_items c.next.new.self in
    let steps : into_iter_items c.loop-key.key-iterator ≡ (k, c.in-Some.set) ∷ left = c.in-Some.ensures.steps.0 in
    let found : lookup (key_eq k) m ≡ Some c.in-Some-replace.stood = sym c.replace.ensures.before ∙ c.in-Some-replace.is in
    record {
      room = omega (arith, c.push_reserved.ensures.len, c.push_reserved.ensures.capacity, c.loop-key.invariant.room, ap length steps);
      ordered = subst (λ (n : Sets). IsStrictlySortedBy key_cmp (keys_of n)) (sym c.replace.ensures.put) (sorted_set k m c.in-Some.set c.loop-key.invariant.ordered);
      before =
          undone_more m _ c.loop-key.exchanged.items c.push_reserved.new.self.items k c.in-Some.set c.in-Some-replace.stood c.replace.ensures.put found c.push_reserved.ensures.items
          ∙ c.loop-key.invariant.before;
      put = ap (λ (n : Sets). with_exchanged n left) c.replace.ensures.put ∙ sym (ap (with_exchanged m) steps) ∙ c.loop-key.invariant.put;
    }

pub loop-key-preserved : goal.loop-key-preserved
loop-key-preserved c =
    let m = c.loop-key.sets in
    let k = c.in-Some.key in
    let left = into_iter_items c.next.new.self in
    let steps : into_iter_items c.loop-key.key-iterator ≡ (k, c.in-Some.set) ∷ left = c.in-Some.ensures.steps.0 in
    let absent : lookup (key_eq k) m ≡ None = sym c.replace.ensures.before ∙ c.in_default.is in
    let same : c.replace.new.self ≡ m = c.replace.ensures.put ∙ set_value_absent (key_eq k) m c.in-Some.set absent in
    record {
      room = omega (arith, c.loop-key.invariant.room, ap length steps);
      ordered = subst (λ (n : Sets). IsStrictlySortedBy key_cmp (keys_of n)) (sym same) c.loop-key.invariant.ordered;
      before = ap (λ (n : Sets). with_before n c.loop-key.exchanged.items) same ∙ c.loop-key.invariant.before;
      put = ap (λ (n : Sets). with_exchanged n left) c.replace.ensures.put ∙ sym (ap (with_exchanged m) steps) ∙ c.loop-key.invariant.put;
    }
