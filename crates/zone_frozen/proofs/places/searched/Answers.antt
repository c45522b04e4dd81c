use Rattle.std.proofs.Common.{rules}
use Rattle.std.proofs.lemmas.Fn.{always_returns_same}
use Rattle.std.proofs.lemmas.List.Sorted.{searchable_from_sorted}
use Rattle.zone_proto.specs.declared.rr_key.RrKey.{RrKey}
use Rattle.zone_proto.specs.Keys.{key_cmp}
use Rattle.zone_proto.specs.Sets.{RRset}
use Rattle.zone_proto.proofs.Ordering.KeyLaws.{key_cmp_total}
use Rattle.zone_frozen.proofs.SetsFrom.{equal_start, parted_start, searchable}
use Rattle.zone_frozen.proofs.places.searched.Goals as goal

pub returns-in-Ok : goal.returns-in-Ok
returns-in-Ok c =
    equal_start c.args.key.now c.args.rows.now c.in-Ok.place c.requires c.in-Ok.ensures.bound
    (c.in-Ok.ensures.position (λ (e : RrKey × RRset). key_cmp e.0 c.args.key.now) (always_returns_same _ _ _ (λ a r q h. search rules)))

pub returns-in-Err : goal.returns-in-Err
returns-in-Err c =
    parted_start c.args.key.now c.args.rows.now c.in-Err.place c.requires c.in-Err.ensures.bound
    (c.in-Err.ensures.position (λ (e : RrKey × RRset). key_cmp e.0 c.args.key.now) (always_returns_same _ _ _ (λ a r q h. search rules))
    (searchable_from_sorted key_cmp_total (λ (e : RrKey × RRset). e.0) c.args.rows.now c.args.key.now (searchable c.args.rows.now c.requires)))
