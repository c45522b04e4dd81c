use Rattle.std.proofs.Common.{sym, ap, ◌∙◌, arith}
use Rattle.std.proofs.lemmas.List.{get_or_default}
use Rattle.zone_proto.specs.declared.rr_key.RrKey.{RrKey}
use Rattle.zone_proto.specs.Keys.{key_eq}
use Rattle.zone_proto.specs.Sets.{RRset}
use Rattle.zone_frozen.proofs.SetsFrom.{upto_place, upto_start}
use Rattle.zone_frozen.proofs.places.end_at.Goals as goal

pub returns-then-place-rows-clause-end : goal.returns-then-place-rows-clause-end
returns-then-place-rows-clause-end c = upto_start c.args.key.now c.args.rows.now c.args.place c.requires.ordered c.requires.start (λ d w. absurd (omega arith))

pub returns-then-same_as-clause-end : goal.returns-then-same_as-clause-end
returns-then-same_as-clause-end c =
    upto_place c.args.key.now c.args.rows.now c.args.place c.requires.ordered c.requires.start c.index-rows-place.result (omega arith)
    (sym c.same_as.ensures ∙ c.if-same_as.true)

pub returns-clause-end : goal.returns-clause-end
returns-clause-end c =
    upto_start c.args.key.now c.args.rows.now c.args.place c.requires.ordered c.requires.start
    (λ d w. ap (λ (x : RrKey × RRset). key_eq x.0 c.args.key.now) (get_or_default c.args.rows.now c.args.place d c.index-rows-place.result w)
    ∙ sym c.same_as.ensures ∙ c.if-same_as.false)
