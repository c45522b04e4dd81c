use Rattle.std.proofs.Common.{sym, ap, ◌∙◌, subst}
use Rattle.std.specs.Prelude.{option_copied}
use Rattle.std.specs.List.Sorted.{IsStrictlySortedBy}
use Rattle.std.specs.Map.{keys_of}
use Rattle.zone_proto.specs.Keys.{key_cmp}
use Rattle.zone_frozen.specs.Sets.{Sets, sets_before, EndsWith}
use Rattle.zone_frozen.proofs.SetsFrom.{before_start}
use Rattle.zone_frozen.proofs.frozen_sets.FrozenSets.last_before.Goals as goal

pub returns : goal.returns
returns c =
    let rows = c.as_slice-rows.result.now in
    subst (λ (es : Sets). EndsWith es (option_copied c.last_before.result))
    (sym (before_start c.args.key.now rows c.start_of.result (subst (λ (m : Sets). IsStrictlySortedBy key_cmp (keys_of m)) (sym c.as_slice-rows.ensures.value) c.self.invariant) c.start_of.ensures)
    ∙ ap (λ (m : Sets). sets_before m c.args.key.now) (c.as_slice-rows.ensures.value ∙ c.self.view_is))
    c.last_before.ensures
