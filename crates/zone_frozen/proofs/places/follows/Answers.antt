use Rattle.std.proofs.Common.{◌-◌, sym, ap, ◌∙◌, arith}
use Rattle.std.specs.List.{slice_index_or}
use Rattle.std.specs.Ordering.{is_lt}
use Rattle.std.proofs.lemmas.List.{get_or_default}
use Rattle.zone_proto.specs.declared.rr_key.RrKey.{RrKey}
use Rattle.zone_proto.specs.Keys.{key_cmp}
use Rattle.zone_proto.specs.Sets.{RRset}
use Rattle.zone_frozen.proofs.SetsFrom.{less_of}
use Rattle.zone_frozen.proofs.places.follows.Goals as goal

pub returns-then-place-eq0 : goal.returns-then-place-eq0
returns-then-place-eq0 c t some d = absurd (omega (arith, some, c.if-place-eq0.true))

pub returns-else-place-eq0 : goal.returns-else-place-eq0
returns-else-place-eq0 c t some d =
    less_of c.args.key.now (slice_index_or c.args.rows.now (c.args.place - 1) d).0
    (ap (λ (x : RrKey × RRset). is_lt (key_cmp x.0 c.args.key.now)) (get_or_default c.args.rows.now (c.args.place - 1) d c.index-rows-place.result (omega (arith, some, c.requires)))
    ∙ sym (c.is_lt.ensures ∙ ap is_lt c.cmp.ensures) ∙ t)
