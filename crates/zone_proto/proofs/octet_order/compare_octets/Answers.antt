use Rattle.std.proofs.Common.{◌≡◌, Equal, length, sym, ap, ◌∙◌}
use Rattle.std.specs.Ordering.{nat_cmp, ordering_then, is_ne}
use Rattle.zone_proto.proofs.Ordering.SameFronts.{decided, equal_if, shared_first}
use Rattle.zone_proto.proofs.octet_order.compare_octets.Goals as goal

pub returns-then-is_ne : goal.returns-then-is_ne
returns-then-is_ne c =
    let s = c.args.a.now in
    let t = c.args.b.now in
    sym (decided c.compare_as_many-order.result (nat_cmp (length s) (length t))
    (λ e. absurd (cc (ap is_ne e, c.is_ne.ensures, c.if-is_ne.true))))
    ∙ (λ i. ordering_then (c.compare_as_many-order.ensures i) (nat_cmp (length s) (length t)))
    ∙ shared_first s t c.min-shared.result c.min-shared.ensures

pub returns : goal.returns
returns c =
    let s = c.args.a.now in
    let t = c.args.b.now in
    let same : c.compare_as_many-order.result ≡ Equal =
    equal_if c.compare_as_many-order.result c.is_ne.result c.is_ne.ensures c.if-is_ne.false in
    c.cmp.ensures
    ∙ (λ i. ordering_then ((sym same ∙ c.compare_as_many-order.ensures) i) (nat_cmp (length s) (length t)))
    ∙ shared_first s t c.min-shared.result c.min-shared.ensures
