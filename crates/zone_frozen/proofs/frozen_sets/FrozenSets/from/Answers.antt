use Rattle.std.proofs.Common.{sym, ap, ◌∙◌, subst}
use Rattle.std.specs.List.Sorted.{IsStrictlySortedBy}
use Rattle.std.specs.Map.{keys_of}
use Rattle.zone_proto.specs.Keys.{key_cmp}
use Rattle.zone_frozen.specs.Sets.{Sets, sets_from}
use Rattle.zone_frozen.proofs.SetsFrom.{from_start}
use Rattle.zone_frozen.proofs.frozen_sets.FrozenSets.from.Goals as goal

pub returns-clause-sets : goal.returns-clause-sets
returns-clause-sets c =
    c.rows_from.ensures
    ∙ from_start c.args.least.now c.as_slice-rows.result.now c.start_of.result
    (subst (λ (m : Sets). IsStrictlySortedBy key_cmp (keys_of m)) (sym c.as_slice-rows.ensures.value) c.self.invariant) c.start_of.ensures
    ∙ ap (λ (m : Sets). sets_from m c.args.least.now) (c.as_slice-rows.ensures.value ∙ c.self.view_is)
