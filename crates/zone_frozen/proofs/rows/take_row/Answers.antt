use Rattle.std.proofs.Common.{◌≡◌, sym, ap, ◌∙◌, subst}
use Rattle.std.specs.Prelude.{Some, None}
use Rattle.std.specs.List.Sorted.{IsStrictlySortedBy}
use Rattle.std.specs.Map.{keys_of, lookup}
use Rattle.zone_proto.specs.declared.rr_key.RrKey.{RrKey}
use Rattle.zone_proto.specs.Keys.{key_cmp, key_eq}
use Rattle.zone_proto.specs.Sets.{RRset}
use Rattle.zone_frozen.specs.Sets.{Sets, IsPlaceOf}
use Rattle.zone_frozen.proofs.UnderKeys.{found_at_place, removed_at_place, removed_absent, sorted_without}
use Rattle.zone_frozen.proofs.rows.take_row.Goals as goal

pub returns-in_err-place-clause-removed : goal.returns-in_err-place-clause-removed
returns-in_err-place-clause-removed c = sym (removed_absent c.args.key.now c.args.rows.now.items
    (subst (λ (m : Sets). lookup (key_eq c.args.key.now) m ≡ None) c.as_slice.ensures.value c.in_err-place.ensures))

pub returns-clause-set : goal.returns-clause-set
returns-clause-set c =
    let here = subst (λ (m : Sets). IsPlaceOf m c.args.key.now c.in_ok-place.place) c.as_slice.ensures.value c.in_ok-place.ensures in
    ap (λ (e : RrKey × RRset). Some e.1) c.remove.ensures.value
    ∙ sym (found_at_place c.args.key.now c.args.rows.now.items c.in_ok-place.place c.remove.result c.requires here.within (here.here c.remove.result))

pub returns-clause-removed : goal.returns-clause-removed
returns-clause-removed c =
    let here = subst (λ (m : Sets). IsPlaceOf m c.args.key.now c.in_ok-place.place) c.as_slice.ensures.value c.in_ok-place.ensures in
    c.remove.ensures.items ∙ removed_at_place c.args.key.now c.args.rows.now.items c.in_ok-place.place c.remove.result c.requires here.within (here.here c.remove.result)

pub returns-clause-ordered : goal.returns-clause-ordered
returns-clause-ordered c =
    let here = subst (λ (m : Sets). IsPlaceOf m c.args.key.now c.in_ok-place.place) c.as_slice.ensures.value c.in_ok-place.ensures in
    subst (λ (m : Sets). IsStrictlySortedBy key_cmp (keys_of m))
    (sym (c.remove.ensures.items ∙ removed_at_place c.args.key.now c.args.rows.now.items c.in_ok-place.place c.remove.result c.requires here.within (here.here c.remove.result)))
    (sorted_without c.args.key.now c.args.rows.now.items c.requires)
