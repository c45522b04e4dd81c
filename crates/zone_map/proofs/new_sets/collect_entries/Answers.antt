use Rattle.std.proofs.Common.{◌∙◌}
use Rattle.std.specs.BTreeMap.{IsFromIterResult}
use Rattle.std.proofs.lemmas.Iterator.Adapters.{fact_from_collect, YieldsList-from_vec}
use Rattle.zone_proto.specs.Keys.{key_cmp}
use Rattle.zone_map.proofs.new_sets.collect_entries.Goals as goal

pub returns : goal.returns
returns c =
    let it = c.into_iter.ensures in
    fact_from_collect (IsFromIterResult key_cmp) c.collect.result c.collect.ensures.ran (YieldsList-from_vec c.args.entries.items it.rest (it.len ∙ c.args.entries.ok.0))
