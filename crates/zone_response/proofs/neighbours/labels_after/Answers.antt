use Rattle.std.proofs.Common.{◌≡◌, ◌∷◌, sym, ap, ◌∙◌, subst}
use Rattle.std.specs.Prelude.{is_some}
use Rattle.std.specs.List.Sorted.{IsStrictlySortedBy}
use Rattle.std.specs.Map.{keys_of}
use Rattle.zone_proto.specs.declared.rr_key.RrKey.{RrKey}
use Rattle.zone_proto.specs.Keys.{key_cmp}
use Rattle.zone_proto.specs.Sets.{RRset}
use Rattle.zone_frozen.specs.Sets.{Sets, sets_from}
use Rattle.zone_frozen.proofs.Nearest.{first_upto_key, first_is_there, first_is_least, none_from, not_greater, sorted_from, upto_not_greater}
use Rattle.zone_response.proofs.NextKeys.{by_first, by_none_after}
use Rattle.zone_response.proofs.TreeKeys.{owner_in_tree}
use Rattle.zone_response.proofs.neighbours.labels_after.Goals as goal

-- the first set and those behind it are those from the key on, in order
in_order : (m : Sets) (key : RrKey) (e : RrKey × RRset) (behind : Sets) → sets_from m key ≡ e ∷ behind → IsStrictlySortedBy key_cmp (keys_of m)
    → IsStrictlySortedBy key_cmp (keys_of (e ∷ behind))
in_order m key e behind is sorted = subst (λ (es : Sets). IsStrictlySortedBy key_cmp (keys_of es)) is (sorted_from key m sorted)

pub returns-in-Some-clause-longest : goal.returns-in-Some-clause-longest
returns-in-Some-clause-longest c =
    let m = c.args.sets.now in
    let key = c.args.key.now in
    let e : RrKey × RRset = (c.in-Some.first.now, c.in-Some.field-0-1.now) in
    let behind : Sets = c.next.new.self in
    let from : sets_from m key ≡ e ∷ behind = sym c.from.ensures.sets ∙ c.in-Some.ensures.steps in
    let ordered = in_order m key e behind from c.from.ensures.ordered in
    by_first m key c.in-Some.first.now c.shared_above.result (not_greater _ (first_upto_key key m e behind from ordered))
    (λ k upto owned. not_greater _ (first_is_least key m e behind from ordered k (upto_not_greater _ upto) owned))
    c.shared_above.ensures.longest

pub returns-in-None-clause-longest : goal.returns-in-None-clause-longest
returns-in-None-clause-longest c =
    by_none_after c.args.sets.now c.args.key.now
    (λ k from. none_from c.args.key.now c.args.sets.now (sym c.from.ensures.sets ∙ c.in-None.ensures.steps.0) k (upto_not_greater _ from))

pub returns-in-Some-clause-in_tree : goal.returns-in-Some-clause-in_tree
returns-in-Some-clause-in_tree c =
    let m = c.args.sets.now in
    let key = c.args.key.now in
    let e : RrKey × RRset = (c.in-Some.first.now, c.in-Some.field-0-1.now) in
    let behind : Sets = c.next.new.self in
    let from : sets_from m key ≡ e ∷ behind = sym c.from.ensures.sets ∙ c.in-Some.ensures.steps in
    let there = first_is_there key m e behind from (in_order m key e behind from c.from.ensures.ordered) in
    λ a above long some. owner_in_tree m c.in-Some.first.now a (ap is_some there) (c.shared_above.ensures.shared a above long)
