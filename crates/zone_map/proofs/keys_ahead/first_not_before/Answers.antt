use Rattle.std.proofs.Common.{◌≡◌, false, ◌∷◌, ap, sym, ◌∙◌, subst}
use Rattle.std.specs.Prelude.{option_copied}
use Rattle.std.specs.List.{list_any}
use Rattle.std.specs.List.Sorted.{IsStrictlySortedBy}
use Rattle.std.specs.Map.{keys_of}
use Rattle.std.specs.Ordering.{is_le}
use Rattle.std.proofs.lemmas.Map.Keys.{sorted_tail}
use Rattle.zone_proto.specs.Keys.{key_cmp, key_eq}
use Rattle.zone_proto.specs.Order.{is_upto}
use Rattle.zone_map.specs.Ahead.{ahead}
use Rattle.zone_map.proofs.Ahead.{passed}
use Rattle.zone_map.proofs.keys_ahead.first_not_before.Goals as goal

pub loop-first-preserved : goal.loop-first-preserved
loop-first-preserved c =
    let k = c.args.key.now in
    let first = c.in-Some.next.now in
    let others = keys_of c.loop-first.others in
    let was : ahead (option_copied c.loop-first.first) others ≡ first ∷ others = ap (λ o. ahead (option_copied o) others) c.in-Some.is in
    let step : ahead (option_copied c.next_key-first.result) (keys_of c.next_key-first.new.sets) ≡ others = c.next_key-first.ensures in
    let before : is_upto key_cmp k first ≡ false = sym (c.is_le.ensures ∙ ap is_le c.cmp.ensures) ∙ c.if-is_le.false in
    record {
      ordered = subst (IsStrictlySortedBy key_cmp) (sym step) (sorted_tail key_cmp first others (subst (IsStrictlySortedBy key_cmp) was c.loop-first.invariant.ordered));
      same = λ q from. ap (list_any (key_eq q)) step ∙ sym (passed first k q others before from) ∙ ap (list_any (key_eq q)) (sym was) ∙ c.loop-first.invariant.same q from;
    }
