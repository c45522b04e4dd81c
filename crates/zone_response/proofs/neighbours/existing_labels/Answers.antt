use Rattle.std.proofs.Common.{subst, arith}
use Rattle.zone_map.specs.Zones.{Sets}
use Rattle.zone_response.specs.Neighbours.{IsInTree, NoLongerExists}
use Rattle.zone_response.proofs.NextKeys.{none_exists}
use Rattle.zone_response.proofs.TreeKeys.{greater_in_tree}
use Rattle.zone_response.proofs.neighbours.existing_labels.Goals as goal

pub returns-clause-longest : goal.returns-clause-longest
returns-clause-longest g c =
    subst (λ (m : Sets). NoLongerExists m c.args.least.now.name c.max.result) c.as_map-sets.ensures.entries
    (none_exists c.as_map-sets.result.now c.args.least.now c.labels_before-before.result c.labels_after-after.result c.max.result (omega (arith, c.max.ensures)) (omega (arith, c.max.ensures))
    c.labels_before-before.ensures.longest c.labels_after-after.ensures.longest)

pub returns-clause-in_tree : goal.returns-clause-in_tree
returns-clause-in_tree g c =
    subst (λ (m : Sets). IsInTree m c.args.least.now.name c.max.result) c.as_map-sets.ensures.entries
    (greater_in_tree c.as_map-sets.result.now c.args.least.now.name c.labels_before-before.result c.labels_after-after.result c.max.result c.max.ensures
    c.labels_before-before.ensures.in_tree c.labels_after-after.ensures.in_tree)
