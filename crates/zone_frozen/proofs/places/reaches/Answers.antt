use Rattle.std.proofs.Common.{sym, ap, ◌∙◌}
use Rattle.std.specs.Ordering.{is_le}
use Rattle.std.proofs.lemmas.List.{get_or_default}
use Rattle.zone_proto.specs.declared.rr_key.RrKey.{RrKey}
use Rattle.zone_proto.specs.Keys.{key_cmp}
use Rattle.zone_proto.specs.Order.{is_upto}
use Rattle.zone_proto.specs.Sets.{RRset}
use Rattle.zone_frozen.proofs.places.reaches.Goals as goal

pub returns-clause-here : goal.returns-clause-here
returns-clause-here c t w d =
    ap (λ (x : RrKey × RRset). is_upto key_cmp c.args.key.now x.0) (get_or_default c.args.rows.now c.args.place d c.index-rows-place.result w)
    ∙ sym (c.is_le.ensures ∙ ap is_le c.cmp.ensures) ∙ t
