use Rattle.std.proofs.Common.{◌≡◌, sym, ap, ◌∙◌, subst}
use Rattle.std.specs.Prelude.{Some, None}
use Rattle.std.specs.List.{slice_set}
use Rattle.std.specs.List.Sorted.{IsStrictlySortedBy}
use Rattle.std.specs.Map.{keys_of, lookup, set_value}
use Rattle.zone_proto.specs.declared.rr_key.RrKey.{RrKey}
use Rattle.zone_proto.specs.Keys.{key_cmp, key_eq}
use Rattle.zone_proto.specs.Sets.{RRset}
use Rattle.zone_frozen.specs.Sets.{Sets, IsPlaceOf}
use Rattle.zone_frozen.proofs.UnderKeys.{found_at_place, set_at_place, set_absent, sorted_set}
use Rattle.zone_frozen.proofs.rows.replace_row.Goals as goal

pub returns-in_err-place-clause-put : goal.returns-in_err-place-clause-put
returns-in_err-place-clause-put c = sym (set_absent c.args.key.now c.args.rows.now.items c.args.set
    (subst (λ (m : Sets). lookup (key_eq c.args.key.now) m ≡ None) c.as_slice.ensures.value c.in_err-place.ensures))

pub returns-clause-before : goal.returns-clause-before
returns-clause-before c =
    let here = subst (λ (m : Sets). IsPlaceOf m c.args.key.now c.in_ok-place.place) c.as_slice.ensures.value c.in_ok-place.ensures in
    ap Some (c.replace.ensures.value ∙ ap (λ (e : RrKey × RRset). e.1) c.index_mut.ensures.value)
    ∙ sym (found_at_place c.args.key.now c.args.rows.now.items c.in_ok-place.place c.index_mut.result.now c.requires here.within (here.here c.index_mut.result.now))

pub returns-clause-put : goal.returns-clause-put
returns-clause-put c =
    let here = subst (λ (m : Sets). IsPlaceOf m c.args.key.now c.in_ok-place.place) c.as_slice.ensures.value c.in_ok-place.ensures in
    let is_put : slice_set c.args.rows.now.items c.in_ok-place.place (c.index_mut.result.now.0, c.replace.new.dest) ≡ set_value (key_eq c.args.key.now) c.args.rows.now.items c.args.set =
    ap (λ (e : RrKey × RRset). slice_set c.args.rows.now.items c.in_ok-place.place (e.0, c.replace.new.dest)) c.index_mut.ensures.value
    ∙ set_at_place c.args.key.now c.args.rows.now.items c.in_ok-place.place c.index_mut.result.now c.replace.new.dest c.requires here.within (here.here c.index_mut.result.now)
    ∙ ap (set_value (key_eq c.args.key.now) c.args.rows.now.items) c.replace.ensures.after in
    is_put

pub returns-clause-ordered : goal.returns-clause-ordered
returns-clause-ordered c =
    let here = subst (λ (m : Sets). IsPlaceOf m c.args.key.now c.in_ok-place.place) c.as_slice.ensures.value c.in_ok-place.ensures in
    let is_put : slice_set c.args.rows.now.items c.in_ok-place.place (c.index_mut.result.now.0, c.replace.new.dest) ≡ set_value (key_eq c.args.key.now) c.args.rows.now.items c.args.set =
    ap (λ (e : RrKey × RRset). slice_set c.args.rows.now.items c.in_ok-place.place (e.0, c.replace.new.dest)) c.index_mut.ensures.value
    ∙ set_at_place c.args.key.now c.args.rows.now.items c.in_ok-place.place c.index_mut.result.now c.replace.new.dest c.requires here.within (here.here c.index_mut.result.now)
    ∙ ap (set_value (key_eq c.args.key.now) c.args.rows.now.items) c.replace.ensures.after in
    subst (λ (m : Sets). IsStrictlySortedBy key_cmp (keys_of m)) (sym is_put) (sorted_set c.args.key.now c.args.rows.now.items c.args.set c.requires)
