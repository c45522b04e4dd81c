use Rattle.std.proofs.Common.{◌≡◌, sym, ap, ◌∙◌, subst}
use Rattle.std.specs.Prelude.{None}
use Rattle.std.specs.List.{slice_set}
use Rattle.std.specs.List.Sorted.{IsStrictlySortedBy}
use Rattle.std.specs.Map.{keys_of, lookup, set_value}
use Rattle.zone_proto.specs.declared.rr_key.RrKey.{RrKey}
use Rattle.zone_proto.specs.Keys.{key_cmp, key_eq}
use Rattle.zone_proto.specs.Sets.{RRset}
use Rattle.zone_proto.specs.Stepping.{stepped}
use Rattle.zone_frozen.specs.Sets.{Sets, with_step, IsPlaceOf}
use Rattle.zone_frozen.proofs.UnderKeys.{found_at_place, set_at_place, stepped_absent, stepped_found, sorted_step}
use Rattle.zone_frozen.proofs.rows.step_row.Goals as goal

pub returns-in-Some-clause-stepped : goal.returns-in-Some-clause-stepped
returns-in-Some-clause-stepped c =
    let m = c.args.rows.now.items in
    let here = subst (λ (n : Sets). IsPlaceOf n c.args.key.now c.in-Some.place) c.as_slice.ensures.value c.in-Some.ensures in
    let same = here.here c.index_mut.result.now in
    let is_stepped : slice_set m c.in-Some.place (c.index_mut.result.now.0, c.step_serial.new.self) ≡ with_step c.args.key.now m =
    ap (λ (e : RrKey × RRset). slice_set m c.in-Some.place (e.0, c.step_serial.new.self)) c.index_mut.ensures.value
    ∙ set_at_place c.args.key.now m c.in-Some.place c.index_mut.result.now c.step_serial.new.self c.requires here.within same
    ∙ ap (set_value (key_eq c.args.key.now) m) (c.step_serial.ensures ∙ ap (λ (e : RrKey × RRset). stepped e.1) c.index_mut.ensures.value)
    ∙ stepped_found c.args.key.now m _ c.requires (found_at_place c.args.key.now m c.in-Some.place c.index_mut.result.now c.requires here.within same) in
    is_stepped

pub returns-in-Some-clause-ordered : goal.returns-in-Some-clause-ordered
returns-in-Some-clause-ordered c =
    let m = c.args.rows.now.items in
    let here = subst (λ (n : Sets). IsPlaceOf n c.args.key.now c.in-Some.place) c.as_slice.ensures.value c.in-Some.ensures in
    let same = here.here c.index_mut.result.now in
    let is_stepped : slice_set m c.in-Some.place (c.index_mut.result.now.0, c.step_serial.new.self) ≡ with_step c.args.key.now m =
    ap (λ (e : RrKey × RRset). slice_set m c.in-Some.place (e.0, c.step_serial.new.self)) c.index_mut.ensures.value
    ∙ set_at_place c.args.key.now m c.in-Some.place c.index_mut.result.now c.step_serial.new.self c.requires here.within same
    ∙ ap (set_value (key_eq c.args.key.now) m) (c.step_serial.ensures ∙ ap (λ (e : RrKey × RRset). stepped e.1) c.index_mut.ensures.value)
    ∙ stepped_found c.args.key.now m _ c.requires (found_at_place c.args.key.now m c.in-Some.place c.index_mut.result.now c.requires here.within same) in
    subst (λ (n : Sets). IsStrictlySortedBy key_cmp (keys_of n)) (sym is_stepped) (sorted_step c.args.key.now m c.requires)

pub returns-in_default-clause-stepped : goal.returns-in_default-clause-stepped
returns-in_default-clause-stepped c =
    sym (stepped_absent c.args.key.now c.args.rows.now.items (subst (λ (n : Sets). lookup (key_eq c.args.key.now) n ≡ None) c.as_slice.ensures.value c.in_default.ensures))
