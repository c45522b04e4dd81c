use Rattle.std.proofs.Common.{◌≡◌, suc, ◌<◌, ◌≤◌, ◌-◌, cond, drop, length, true, false, sym, ap, ◌∙◌, subst, arith}
use Rattle.std.specs.Prelude.{None, option_map}
use Rattle.std.specs.Option.{option_or}
use Rattle.zone_proto.specs.declared.rr_key.RrKey.{RrKey}
use Rattle.zone_proto.specs.Names.{Name, name_eq, is_at_or_above, IsAbove}
use Rattle.zone_proto.specs.Types.{NS, DNAME}
use Rattle.zone_proto.proofs.Names.NameTree.{is_at_or_above_sound, is_at_or_above_complete}
use Rattle.zone_map.specs.Zones.{owns_at_or_below, set_at}
use Rattle.zone_response.specs.Descent.{diversion_above, diversion_by, diversion_of}
use Rattle.zone_response.specs.Neighbours.{NoLongerOwns}
use Rattle.zone_response.specs.Searches.{names_between}
use Rattle.zone_response.proofs.NextKeys.{at_from_above, last_above, last_length, nested}
use Rattle.zone_response.proofs.SearchCounts.{at_most_one, fewer_between}
use Rattle.zone_response.proofs.TurnWalk.{other_size, mapped_or, or_none, goes_up, none_left, at_origin}
use Rattle.zone_response.proofs.descent.diversion_from_apex.Goals as goal

pub loop-below-init : goal.loop-below-init
loop-below-init g c =
    let copy = c.in_ok-below.ensures.copy.ok in
    record {
      left = λ t. sym (ap (λ (k : RrKey). option_or (diversion_above c.args.origin.now c.args.inner.now.records c.args.name.now t k.name) None) copy ∙ or_none (diversion_above c.args.origin.now c.args.inner.now.records c.args.name.now t c.args.name.now));
      inside = ap (λ (k : RrKey). is_at_or_above c.args.origin.now k.name) copy ∙ c.requires.inside;
      no_longer = omega (arith, ap (λ (k : RrKey). length k.name) copy);
      counted = omega (arith, ap (λ (k : RrKey). length (names_between c.args.origin.now c.args.inner.now.records k.name)) copy);
    }

pub loop-below-preserved : goal.loop-below-preserved
loop-below-preserved g c =
    let o = c.args.origin.now in
    let m = c.args.inner.now.records in
    let x = c.args.name.now in
    let b = c.loop-below.below.name in
    let labels = c.owning_labels-labels.result in
    let less : labels < length b = c.owning_labels-labels.ensures.shorter in
    let a : Name = drop (length b - labels) b in
    let long : length a ≡ labels = last_length labels b (omega arith) in
    let above : IsAbove a b = last_above labels b less in
    let none : NoLongerOwns m b (length a) = subst (NoLongerOwns m b) (sym long) c.owning_labels-labels.ensures.longest in
    let is : c.new-above.result.name ≡ a = ap (λ (k : RrKey). k.name) c.new-above.ensures.value ∙ c.in_ok-ancestor.ensures.ok in
    let inside : is_at_or_above o a ≡ true =
    is_at_or_above_complete o a (nested o a b (is_at_or_above_sound o b c.loop-below.invariant.inside) (at_from_above a b above) (omega (arith, c.owning_labels-labels.ensures.least, c.num_labels-depth.ensures.count))) in
    let shorter : length a < length x = omega (arith, c.loop-below.invariant.no_longer) in
    let other : name_eq a o ≡ false = other_size a o (λ e. omega (arith, e, long, c.if-labels-depth.false, c.num_labels-depth.ensures.count)) in
    let more : length o < labels = omega (arith, c.owning_labels-labels.ensures.least, c.if-labels-depth.false, c.num_labels-depth.ensures.count) in
    let there : owns_at_or_below m a ≡ true = c.owning_labels-labels.ensures.in_tree (omega (arith, more, c.num_labels-depth.ensures.count)) a above long (omega (arith, more)) in
    let fewer : suc (length (names_between o m a)) ≤ length (names_between o m b) = fewer_between o m a b above inside (omega (arith, more, long)) there in
    let here =
    c.diversion_by-in-loop-below.ensures
    ∙ (λ i. diversion_by (c.read_node_sets-here.ensures.ns i) (c.read_node_sets-here.ensures.second_asked i))
    ∙ ap (λ n. diversion_by (set_at m n NS) (set_at m n DNAME)) is
    ∙ ap (λ b. diversion_by (cond b None (set_at m a NS)) (set_at m a DNAME)) (sym other) in
    record {
      left = λ t.
          c.loop-below.invariant.left t
          ∙ goes_up o m x t b a (option_map diversion_of c.loop-below.found) (option_map diversion_of c.diversion_by-in-loop-below.result) (option_map diversion_of c.or-found.result) inside shorter above none
          here
          (ap (option_map diversion_of) c.or-found.ensures ∙ mapped_or diversion_of c.diversion_by-in-loop-below.result c.loop-below.found)
          ∙ ap (λ n. option_or (diversion_above o m x t n) (option_map diversion_of c.or-found.result)) (sym is);
      inside = ap (is_at_or_above o) is ∙ inside;
      no_longer = omega (arith, ap length is, c.loop-below.invariant.no_longer);
      counted =
          omega (
            arith,
            ap (λ n. length (names_between o m n)) is,
            c.loop-below.invariant.counted,
            fewer,
            c.owning_labels-labels.ensures.counted,
            c.add_one.ensures,
            at_most_one c.owning_labels-labels.new.searches,
          );
    }

pub returns-then-labels-depth-clause-ok : goal.returns-then-labels-depth-clause-ok
returns-then-labels-depth-clause-ok g c = λ t.
    let o = c.args.origin.now in
    let m = c.args.inner.now.records in
    let b = c.loop-below.below.name in
    let depth : c.owning_labels-labels.result ≡ length o = omega (arith, c.if-labels-depth.true, c.num_labels-depth.ensures.count) in
    let longer : length o < length b = omega (arith, depth, c.owning_labels-labels.ensures.shorter) in
    let none : NoLongerOwns m b (length o) = subst (NoLongerOwns m b) depth c.owning_labels-labels.ensures.longest in
    at_origin o m c.args.name.now t b (option_map diversion_of c.loop-below.found) (option_map diversion_of c.diversion_by.result) (option_map diversion_of c.or.result)
    c.loop-below.invariant.inside longer c.loop-below.invariant.no_longer none (c.diversion_by.ensures ∙ ap (diversion_by None) c.requires.apex.second_asked)
    (ap (option_map diversion_of) c.or.ensures ∙ mapped_or diversion_of c.diversion_by.result c.loop-below.found)
    ∙ sym (c.loop-below.invariant.left t)

pub returns-clause-ok : goal.returns-clause-ok
returns-clause-ok g c = λ t.
    let short : length c.loop-below.below.name ≤ length c.args.origin.now = omega (arith, c.num_labels-depth.ensures.count, c.num_labels.ensures.count, c.loop-below-test.false) in
    sym (c.loop-below.invariant.left t ∙ none_left c.args.origin.now c.args.inner.now.records c.args.name.now t c.loop-below.below.name (option_map diversion_of c.loop-below.found) short)
