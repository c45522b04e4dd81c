use Rattle.std.proofs.Common.{◌≡◌, length, sym, ap, ◌∙◌, arith}
use Rattle.std.specs.Ordering.{ordering_then}
use Rattle.zone_proto.specs.Names.{caseless_cmp}
use Rattle.zone_proto.proofs.Ordering.FromLeft.{caseless_step}
use Rattle.zone_proto.proofs.name_order.compare_alike.Goals as goal

pub loop-label-preserved-in-Some-next : goal.loop-label-preserved-in-Some-next
loop-label-preserved-in-Some-next c =
    let left = c.next.new.self in
    let right = c.next-in-loop-label.new.self in
    let order = c.loop-label.order in
    let one = c.in-Some.ensures.steps in
    let other = c.in-Some-next.ensures.steps in
    let alike : length left ≡ length right = omega (arith, c.loop-label.invariant.alike, ap length one, ap length other) in
    record {
      alike = alike;
      decided =
          ap (ordering_then (caseless_cmp left right)) (c.then-order.ensures ∙ ap (λ o. ordering_then o order) c.compare_label.ensures)
          ∙ caseless_step left right c.in-Some.label.now c.in-Some-next.other.now order alike
          ∙ (λ i. ordering_then (caseless_cmp (sym one i) (sym other i)) order)
          ∙ c.loop-label.invariant.decided;
    }
