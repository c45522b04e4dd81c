use Rattle.std.proofs.Common.{◌≡◌, subst, sym, arith}
use Rattle.zone_map.specs.Zones.{Sets}
use Rattle.zone_response.specs.Neighbours.{IsInTree, NoLongerOwns}
use Rattle.zone_response.proofs.NextKeys.{none_owns}
use Rattle.zone_response.proofs.descent.owning_labels.Goals as goal

pub returns-clause-longest : goal.returns-clause-longest
returns-clause-longest g c =
    subst (λ (m : Sets). NoLongerOwns m c.args.below.now.name c.max.result) c.as_map.ensures.entries
    (none_owns c.as_map.result.now c.args.below.now c.labels_before.result c.max.result (omega (arith, c.max.ensures)) c.labels_before.ensures.longest)

pub returns-clause-in_tree : goal.returns-clause-in_tree
returns-clause-in_tree g c = λ more.
    let same : c.max.result ≡ c.labels_before.result = omega (arith, c.max.ensures, more) in
    subst (λ (m : Sets). IsInTree m c.args.below.now.name c.max.result) c.as_map.ensures.entries
    (subst (λ n. IsInTree c.as_map.result.now c.args.below.now.name n) (sym same) c.labels_before.ensures.in_tree)
