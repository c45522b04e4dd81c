use Rattle.std.proofs.Common.{◌≡◌, ◌+◌, ◌-◌, ◌<◌, suc, false, [], drop, length, sym, ap, ◌∙◌, subst, true≢false, arith}
use Rattle.std.specs.Prelude.{Some, find}
use Rattle.zone_proto.specs.declared.rr_key.RrKey.{RrKey}
use Rattle.zone_proto.specs.Names.{suffixes, wildcard_of, IsAbove}
use Rattle.zone_map.specs.Walks.{IsChild}
use Rattle.zone_map.specs.Wildcards.{exists}
use Rattle.zone_response.specs.Neighbours.{NoLongerExists}
use Rattle.zone_response.proofs.NextKeys.{fewer_labels, last_above, last_length}
use Rattle.zone_response.proofs.SearchCounts.{at_most_one, left_searches, left_at_first, left_above, some_left}
use Rattle.zone_response.proofs.WildcardWalk.{labels_fit, parent_above, above_above, next_longer, none_of_root, begins, at_encloser, at_root, passed}
use Rattle.zone_response.proofs.wildcards.source_of_synthesis.Goals as goal

pub returns-then-is_root-clause-wildcard : goal.returns-then-is_root-clause-wildcard
returns-then-is_root-clause-wildcard g c = none_of_root c.args.inner.now.records c.args.name.now (c.is_root.ensures.0 c.if-is_root.true)

pub loop-above-init : goal.loop-above-init
loop-above-init g c =
    let n = c.args.name.now in
    let below : n ≡ [] → ⊥ = λ e. true≢false (sym (c.is_root.ensures.1 e) ∙ c.if-is_root.false) in
    let above = c.shorten.ensures ∙ ap (λ (k : RrKey). drop 1 k.name) c.in_ok-above.ensures.copy.ok in
    record {
      left = begins c.args.inner.now.records n _ below above;
      above = parent_above n _ below above;
      type_zero = ap (λ (k : RrKey). k.record_type.0) c.in_ok-above.ensures.copy.ok;
      counted = omega (arith, left_at_first c.args.inner.now.records n _ below above);
    }

pub loop-above-preserved : goal.loop-above-preserved
loop-above-preserved g c =
    let m = c.args.inner.now.records in
    let a = c.loop-above.above.name in
    let labels = c.existing_labels-labels.result in
    let below : a ≡ [] → ⊥ = λ e. true≢false (sym (c.is_root-in-loop-above.ensures.1 e) ∙ c.if-is_root-2.false) in
    let absent : exists m a ≡ false = sym c.exists.ensures ∙ c.if-exists.false in
    let b = drop (length a - labels) a in
    let less : labels < length a = fewer_labels a labels below c.existing_labels-labels.ensures.shorter in
    let above : IsAbove b a = last_above labels a less in
    let none : NoLongerExists m a (length b) = subst (NoLongerExists m a) (sym (last_length labels a (omega arith))) c.existing_labels-labels.ensures.longest in
    let is : c.in_ok-ancestor.field-0 ≡ b = c.in_ok-ancestor.ensures.ok in
    let key = c.new-above.ensures.value in
    record {
      left = ap (λ (k : RrKey). find (exists m) (suffixes k.name)) key ∙ ap (λ n. find (exists m) (suffixes n)) is ∙ passed m c.args.name.now a c.loop-above.invariant.left b above absent none;
      above = subst (λ (k : RrKey). IsAbove k.name c.args.name.now) (sym key) (subst (λ n. IsAbove n c.args.name.now) (sym is) (above_above b a c.args.name.now above c.loop-above.invariant.above));
      type_zero = ap (λ (k : RrKey). k.record_type.0) key;
      counted =
          omega (
            arith,
            ap (λ (k : RrKey). left_searches m k.name) key,
            ap (λ n. left_searches m n) is,
            left_above m a b below absent above (λ some. c.existing_labels-labels.ensures.in_tree b above (last_length labels a (omega arith)) (omega (arith, some, last_length labels a (omega arith)))),
            c.loop-above.invariant.counted,
            c.existing_labels-labels.ensures.counted,
            c.add_one.ensures,
            at_most_one c.loop-above.searches,
          );
    }

pub overflow_add-num_labels : goal.overflow_add-num_labels
overflow_add-num_labels g c = omega (arith, c.num_labels.ensures.count, labels_fit c.loop-above.above.name, c.num_labels.ensures.valid.name.short)

pub returns-then-exists-clause-wildcard : goal.returns-then-exists-clause-wildcard
returns-then-exists-clause-wildcard g c =
    let n = c.args.name.now in
    let a = c.loop-above.above.name in
    let child : IsChild (drop (length n - suc (length a)) n) a = next_longer n a c.loop-above.invariant.above in
    let count : c.num_labels.result + 1 ≡ suc (length a) = omega (arith, c.num_labels.ensures.count) in
    ap Some (c.into_wildcard.ensures ∙ ap wildcard_of (c.in_ok-next_closer.ensures.ok ∙ ap (λ k. drop (length n - k) n) count))
    ∙ at_encloser c.args.inner.now.records n a c.loop-above.invariant.left _ (sym c.exists.ensures ∙ c.if-exists.true) child

pub returns-then-is_root-2-clause-wildcard : goal.returns-then-is_root-2-clause-wildcard
returns-then-is_root-2-clause-wildcard g c =
    at_root c.args.inner.now.records c.args.name.now c.loop-above.above.name c.loop-above.invariant.left (c.is_root-in-loop-above.ensures.0 c.if-is_root-2.true) (sym c.exists.ensures ∙ c.if-exists.false)

pub returns-then-exists-clause-counted : goal.returns-then-exists-clause-counted
returns-then-exists-clause-counted g c =
    omega (arith, c.loop-above.invariant.counted, some_left c.args.inner.now.records c.loop-above.above.name, c.add_one.ensures, at_most_one c.loop-above.searches)

pub returns-then-is_root-2-clause-counted : goal.returns-then-is_root-2-clause-counted
returns-then-is_root-2-clause-counted g c =
    omega (arith, c.loop-above.invariant.counted, some_left c.args.inner.now.records c.loop-above.above.name, c.add_one.ensures, at_most_one c.loop-above.searches)
