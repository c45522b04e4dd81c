use Rattle.std.proofs.Common.{◌≡◌, ◌∷◌, take, drop, subst, sym, ap, ◌∙◌}
use Rattle.zone_proto.specs.Counting.{counted_name, IsCounting}
use Rattle.zone_proto.proofs.Names.Countings.{IsSplit, split}
use Rattle.zone_proto.proofs.counted.split_counted.Goals as goal

pub returns-clause-gives : goal.returns-clause-gives
returns-clause-gives c =
    let k = c.in_ok-count.count.now in
    let s = c.in_ok-count.rest.now in
    let whole : c.args.octets.now ≡ k ∷ s = c.in_ok-count.ensures.cases.0 in
    let first : IsSplit k s = split k s (subst (λ z. IsCounting z (counted_name z)) whole c.requires) in
    let back : c.split_at.result.1.now ≡ drop k s = c.split_at.ensures.back ∙ ap (λ j. drop j s) c.from.ensures in
    let front : c.split_at.result.0.now ≡ take k s = c.split_at.ensures.front ∙ ap (λ j. take j s) c.from.ensures in
    ap counted_name whole ∙ first.name ∙ λ i. sym front i ∷ counted_name (sym back i)

pub returns-clause-base : goal.returns-clause-base
returns-clause-base c =
    let k = c.in_ok-count.count.now in
    let s = c.in_ok-count.rest.now in
    let whole : c.args.octets.now ≡ k ∷ s = c.in_ok-count.ensures.cases.0 in
    let first : IsSplit k s = split k s (subst (λ z. IsCounting z (counted_name z)) whole c.requires) in
    let back : c.split_at.result.1.now ≡ drop k s = c.split_at.ensures.back ∙ ap (λ j. drop j s) c.from.ensures in
    subst (λ z. IsCounting z (counted_name z)) (sym back) first.base
