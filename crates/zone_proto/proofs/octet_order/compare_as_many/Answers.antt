use Rattle.std.proofs.Common.{◌+◌, ◌-◌, ◌<◌, ◌≤◌, take, drop, length, sym, ap, ◌∙◌, arith}
use Rattle.std.proofs.lemmas.List.{length-take, length-drop, take-take}
use Rattle.std.specs.Cmp.Lexicographic.{slice_cmp}
use Rattle.std.specs.Ordering.{nat_cmp, is_ne}
use Rattle.zone_proto.proofs.Ordering.SameFronts.{equal_if, more_same, more_differ, after_same, taken}
use Rattle.zone_proto.proofs.octet_order.compare_as_many.Goals as goal
use Rattle.zone_proto.proofs.octet_order.compare_as_many.Goals.{in_default, in_default-2}

pub returns-then-is_ne : goal.returns-then-is_ne
returns-then-is_ne c =
    let s = c.args.a.now in
    let t = c.args.b.now in
    let k = c.loop-eight.same in
    let one = c.in-Some-Some.ensures.cases in
    let other = c.in-Some-Some.ensures'.cases in
    let room : k + 8 ≤ length s = omega (arith, one.enough, length-take (length s - k) (drop k s), length-drop k s) in
    more_differ s t k 8 c.compare_eight-order.result c.loop-eight.invariant.fronts room (omega (arith, room, c.requires))
    (c.compare_eight-order.ensures ∙ λ i. slice_cmp nat_cmp ((one.same ∙ ap (take 8) (taken s k)) i) ((other.same ∙ ap (take 8) (taken t k)) i))
    (λ e. absurd (cc (ap is_ne e, c.is_ne.ensures, c.if-is_ne.true)))

pub loop-eight-preserved : goal.loop-eight-preserved
loop-eight-preserved c =
    let s = c.args.a.now in
    let t = c.args.b.now in
    let k = c.loop-eight.same in
    let one = c.in-Some-Some.ensures.cases in
    let other = c.in-Some-Some.ensures'.cases in
    record {
      within = omega (arith, one.enough, length-take (length s - k) (drop k s), length-drop k s);
      fronts =
          more_same s t k 8 c.loop-eight.invariant.fronts
          ((λ i. slice_cmp nat_cmp (sym (one.same ∙ ap (take 8) (taken s k)) i) (sym (other.same ∙ ap (take 8) (taken t k)) i))
          ∙ sym c.compare_eight-order.ensures
          ∙ equal_if c.compare_eight-order.result c.is_ne.result c.is_ne.ensures c.if-is_ne.false);
    }

pub returns-in-Some-Some-2 : goal.returns-in-Some-Some-2
returns-in-Some-Some-2 c =
    let s = c.args.a.now in
    let t = c.args.b.now in
    let k = c.loop-eight.same in
    let few : length s < k + 8 =
    elim c.match-first_chunk.branch [
      | in_default w ↦ omega (arith, w.in_default.ensures'.cases, length-take (length t - k) (drop k t), length-drop k t, c.requires)
      | in_default-2 w ↦ omega (arith, w.in_default.ensures.cases, length-take (length s - k) (drop k s), length-drop k s)
    ] in
    let one = c.in-Some-Some-2.ensures.cases in
    let other = c.in-Some-Some-2.ensures'.cases in
    c.compare_eight.ensures
    ∙ (λ i. slice_cmp nat_cmp (one.1.same i) ((other.1.same ∙ λ j. drop (sym c.requires j - 8) t) i))
    ∙ after_same s t (length s - 8)
    (sym (take-take (length s - 8) k s (omega (arith, few))) ∙ ap (take (length s - 8)) c.loop-eight.invariant.fronts ∙ take-take (length s - 8) k t (omega (arith, few)))
