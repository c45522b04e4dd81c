use Rattle.std.proofs.Common.{◌≡◌, ◌-◌, length, drop, min, ◌∙◌, arith}
use Rattle.std.specs.Ordering.{ordering_then, nat_cmp}
use Rattle.zone_proto.specs.Names.{caseless_cmp}
use Rattle.zone_proto.proofs.Ordering.FromLeft.{caseless_split}
use Rattle.zone_proto.proofs.name_order.compare_labels.Goals as goal

pub returns : goal.returns
returns c =
    let a = c.args.a in
    let b = c.args.b in
    let k = c.min-shared.result in
    let least : k ≡ min (length a) (length b) = omega (arith, c.min-shared.ensures, c.len-i.ensures, c.len-j.ensures) in
    c.then.ensures
    ∙ (λ t. ordering_then ((c.compare_alike.ensures ∙ λ u. caseless_cmp (c.skip.ensures u) (c.skip-2.ensures u)) t) (c.cmp.ensures t))
    ∙ (λ t. ordering_then (caseless_cmp (drop (c.len-i.ensures t - k) a) (drop (c.len-j.ensures t - k) b)) (nat_cmp (c.len-i.ensures t) (c.len-j.ensures t)))
    ∙ caseless_split a b k least
