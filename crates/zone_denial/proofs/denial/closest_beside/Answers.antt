use Rattle.std.proofs.Common.{◌≡◌, ◌∙◌, sym, ap, true≢false}
use Rattle.std.specs.Prelude.{option_and_then}
use Rattle.std.proofs.lemmas.Result.{IfOk-weaker}
use Rattle.zone_proto.specs.Names.{name_cmp, IsAtOrAbove}
use Rattle.zone_proto.proofs.Ordering.KeyOrder.{equal_of}
use Rattle.zone_proto.proofs.Names.Tree.{name_order}
use Rattle.zone_denial.specs.NsecDenial.{closest_nsec, proved_beside}
use Rattle.zone_denial.proofs.Chain.NsecEnclosers.{below_other, beside_origin, beside_below, beside_outside}
use Rattle.zone_denial.proofs.denial.closest_beside.Goals as goal

pub returns-then-eq-clause-found : goal.returns-then-eq-clause-found
returns-then-eq-clause-found c =
    let n = c.args.name in
    let origin = c.args.origin.now in
    let m = c.args.records.now in
    let same : n ≡ origin = name_order.exact n origin (equal_of (name_cmp n origin) (sym c.eq.ensures ∙ c.if-eq.true)) in
    ap (option_and_then (closest_nsec m)) (sym (ap (proved_beside origin m) same ∙ beside_origin origin m))

pub returns-then-not-zone_of-clause-found : goal.returns-then-not-zone_of-clause-found
returns-then-not-zone_of-clause-found c =
    let m = c.args.records.now in
    let out = λ (w : IsAtOrAbove c.args.origin.now c.args.name). true≢false (sym (c.zone_of.ensures.1 w) ∙ c.if-not-zone_of.true) in
    IfOk-weaker c.closest_nsec_knowing.result _ _ (λ set is. is ∙ ap (option_and_then (closest_nsec m)) (sym (beside_outside c.args.origin.now m c.args.name out))) c.closest_nsec_knowing.ensures.found

pub enclosed_wildcard-requires : goal.enclosed_wildcard-requires
enclosed_wildcard-requires c = below_other c.args.origin.now c.args.name (sym c.eq.ensures ∙ c.if-eq.false) (c.zone_of.ensures.0 c.if-not-zone_of.false)

pub returns-clause-found : goal.returns-clause-found
returns-clause-found c =
    let m = c.args.records.now in
    let below = below_other c.args.origin.now c.args.name (sym c.eq.ensures ∙ c.if-eq.false) (c.zone_of.ensures.0 c.if-not-zone_of.false) in
    IfOk-weaker c.closest_nsec_knowing-2.result _ _
    (λ set is. is ∙ ap (closest_nsec m) c.in_ok-wildcard.ensures.ok ∙ ap (option_and_then (closest_nsec m)) (sym (beside_below c.args.origin.now m c.args.name below)))
    c.closest_nsec_knowing-2.ensures.found
