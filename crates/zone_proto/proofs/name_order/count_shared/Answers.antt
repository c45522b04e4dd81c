use Rattle.std.proofs.Common.{◌≡◌, sym, subst, true}
use Rattle.zone_proto.specs.Names.{IsAtOrAbove, lower}
use Rattle.zone_proto.proofs.Names.SharedEnds.{all_left, one_less, left_shares}
use Rattle.zone_proto.proofs.name_order.count_shared.Goals as goal

pub loop-b-init : goal.loop-b-init
loop-b-init c = all_left c.args.a c.args.b

pub loop-b-smaller : goal.loop-b-smaller
loop-b-smaller c =
    (one_less c.args.a c.args.b c.loop-b.rest c.next.new.self c.next.result c.requires.own c.requires.other
    (λ up.
    let t : c.labels_are_above.result ≡ true =
    c.labels_are_above.ensures.1
    (subst (λ z. IsAtOrAbove (lower z) (lower c.clone-in-loop-b.result)) (sym c.clone.ensures)
    (subst (λ z. IsAtOrAbove (lower c.loop-b.rest) (lower z)) (sym c.clone-in-loop-b.ensures) up)) in
    absurd (cc)) c.loop-b.invariant c.next.ensures.steps).1

pub loop-b-preserved : goal.loop-b-preserved
loop-b-preserved c =
    (one_less c.args.a c.args.b c.loop-b.rest c.next.new.self c.next.result c.requires.own c.requires.other
    (λ up.
    let t : c.labels_are_above.result ≡ true =
    c.labels_are_above.ensures.1
    (subst (λ z. IsAtOrAbove (lower z) (lower c.clone-in-loop-b.result)) (sym c.clone.ensures)
    (subst (λ z. IsAtOrAbove (lower c.loop-b.rest) (lower z)) (sym c.clone-in-loop-b.ensures) up)) in
    absurd (cc)) c.loop-b.invariant c.next.ensures.steps).0

pub returns : goal.returns
returns c =
    left_shares c.args.a c.args.b c.loop-b.rest c.len.result c.requires.own c.requires.other
    (subst (λ z. IsAtOrAbove (lower z) (lower c.args.b)) c.clone.ensures
    (subst (λ z. IsAtOrAbove (lower c.clone.result) (lower z)) c.clone-in-loop-b.ensures (c.labels_are_above.ensures.0 c.loop-b-test.false)))
    c.loop-b.invariant c.len.ensures
