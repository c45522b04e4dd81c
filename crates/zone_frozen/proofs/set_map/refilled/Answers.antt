use Rattle.std.specs.BTreeMap.{IsFromIterResult}
use Rattle.std.proofs.lemmas.Iterator.Adapters.{fact_from_collect}
use Rattle.std.proofs.lemmas.Iterator.Consumers.{YieldsList-from_rest}
use Rattle.std.proofs.lemmas.Result.{IfOk-weaker}
use Rattle.zone_proto.specs.Keys.{key_cmp}
use Rattle.zone_frozen.proofs.Refilling.{refilled_same}
use Rattle.zone_frozen.proofs.set_map.refilled.Goals as goal

pub returns : goal.returns
returns c =
    IfOk-weaker c.collect.result (IsFromIterResult key_cmp c.args.sets.entries) _ (λ made from. refilled_same c.args.sets made c.requires from)
    (fact_from_collect (IsFromIterResult key_cmp) c.collect.result c.collect.ensures.ran (YieldsList-from_rest c.args.sets.entries c.into_iter.ensures.into_iter_gives.0))
