use Rattle.std.proofs.Common.{◌≡◌, [], ◌∷◌, ◌++◌, ap, subst}
use Rattle.std.specs.Prelude.{is_some}
use Rattle.std.specs.List.Sorted.{IsStrictlySortedBy}
use Rattle.std.specs.Map.{keys_of}
use Rattle.std.specs.Ordering.{is_lt}
use Rattle.zone_proto.specs.declared.rr_key.RrKey.{RrKey}
use Rattle.zone_proto.specs.Keys.{key_cmp}
use Rattle.zone_proto.specs.Sets.{RRset}
use Rattle.zone_frozen.specs.Sets.{Sets, sets_before}
use Rattle.zone_frozen.proofs.Nearest.{last_before_key, last_is_there, last_is_greatest, none_before_key, sorted_before}
use Rattle.zone_response.proofs.NextKeys.{by_last, by_none_before}
use Rattle.zone_response.proofs.TreeKeys.{owner_in_tree}
use Rattle.zone_response.proofs.neighbours.labels_before.Goals as goal

-- the sets up to the last one are those before the key, in order
in_order : (m : Sets) (key : RrKey) (e : RrKey × RRset) (front : Sets) → sets_before m key ≡ front ++ e ∷ [] → IsStrictlySortedBy key_cmp (keys_of m)
    → IsStrictlySortedBy key_cmp (keys_of (front ++ e ∷ []))
in_order m key e front is sorted = subst (λ (es : Sets). IsStrictlySortedBy key_cmp (keys_of es)) is (sorted_before key m sorted)

pub returns-in-Some-clause-longest : goal.returns-in-Some-clause-longest
returns-in-Some-clause-longest c =
    let m = c.args.sets.now in
    let key = c.args.key.now in
    let e : RrKey × RRset = (c.in-Some.last.now, c.in-Some.field-0-1.now) in
    let part = c.in-Some.ensures.last in
    let ordered = in_order m key e part.0 part.1 c.last_before.ensures.ordered in
    by_last m key c.in-Some.last.now c.shared_above.result (last_before_key key m e part.0 part.1 ordered)
    (λ k before owned. last_is_greatest key m e part.0 part.1 ordered k (ap is_lt before) owned)
    c.shared_above.ensures.longest

pub returns-in-None-clause-longest : goal.returns-in-None-clause-longest
returns-in-None-clause-longest c =
    by_none_before c.args.sets.now c.args.key.now (λ k before. none_before_key c.args.key.now c.args.sets.now c.in-None.ensures.last k (ap is_lt before))

pub returns-in-Some-clause-in_tree : goal.returns-in-Some-clause-in_tree
returns-in-Some-clause-in_tree c =
    let m = c.args.sets.now in
    let key = c.args.key.now in
    let e : RrKey × RRset = (c.in-Some.last.now, c.in-Some.field-0-1.now) in
    let part = c.in-Some.ensures.last in
    let there = last_is_there key m e part.0 part.1 (in_order m key e part.0 part.1 c.last_before.ensures.ordered) in
    λ a above long some. owner_in_tree m c.in-Some.last.now a (ap is_some there) (c.shared_above.ensures.shared a above long)
