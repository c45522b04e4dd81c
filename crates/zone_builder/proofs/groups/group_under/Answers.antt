use Rattle.std.proofs.Common.{rules, sym}
use Rattle.std.proofs.lemmas.Fn.{always_returns_same}
use Rattle.std.proofs.lemmas.List.Sorted.{searchable_from_sorted}
use Rattle.zone_proto.specs.declared.rr_key.RrKey.{RrKey}
use Rattle.zone_proto.specs.Keys.{key_cmp}
use Rattle.zone_proto.proofs.Ordering.KeyLaws.{key_cmp_total}
use Rattle.zone_builder.specs.declared.groups.Group.{Group}
use Rattle.zone_builder.proofs.Sorting.{found_at, found_elsewhere, searchable}
use Rattle.zone_builder.proofs.groups.group_under.Goals as goal

pub returns-in-Ok : goal.returns-in-Ok
returns-in-Ok c =
    let d = c.index-groups-place.result in
    found_at c.args.groups.now c.args.key.now c.in-Ok.place d c.requires c.in-Ok.ensures.bound
    (c.in-Ok.ensures.position (λ (e : RrKey × Group). key_cmp e.0 c.args.key.now) (always_returns_same _ _ _ (λ a r q h. search rules)) d)

pub returns-in-Err : goal.returns-in-Err
returns-in-Err c =
    sym (found_elsewhere c.args.groups.now c.args.key.now c.in-Err.field-0
    (c.in-Err.ensures.position (λ (e : RrKey × Group). key_cmp e.0 c.args.key.now) (always_returns_same _ _ _ (λ a r q h. search rules))
    (searchable_from_sorted key_cmp_total (λ (e : RrKey × Group). e.0) c.args.groups.now c.args.key.now (searchable c.args.groups.now c.requires))))
