use Rattle.std.proofs.Common.{◌≡◌, sym, ap, ◌∙◌, subst}
use Rattle.std.specs.Prelude.{Some, None}
use Rattle.std.specs.List.{slice_set}
use Rattle.std.specs.List.Sorted.{IsStrictlySortedBy}
use Rattle.std.specs.Map.{keys_of, lookup, set_value}
use Rattle.zone_proto.specs.declared.rr_key.RrKey.{RrKey}
use Rattle.zone_proto.specs.Keys.{key_cmp, key_eq}
use Rattle.zone_proto.specs.Results.{IsInsertion}
use Rattle.zone_proto.specs.Sets.{RRset}
use Rattle.zone_frozen.specs.Sets.{Sets, inserted_under, IsPlaceOf}
use Rattle.zone_frozen.proofs.Inserted.{belongs_found, inserted_absent, inserted_found}
use Rattle.zone_frozen.proofs.UnderKeys.{found_at_place, set_at_place, sorted_set}
use Rattle.zone_frozen.proofs.rows.insert_in_row.Goals as goal

pub insert-requires-clause-owner : goal.insert-requires-clause-owner
insert-requires-clause-owner c =
    let m = c.args.rows.now.items in
    let here = subst (λ (n : Sets). IsPlaceOf n c.args.key.now c.in-Some.place) c.as_slice.ensures.value c.in-Some.ensures in
    let found : lookup (key_eq c.args.key.now) m ≡ Some c.index_mut.result.now.1 =
    found_at_place c.args.key.now m c.in-Some.place c.index_mut.result.now c.requires.ordered here.within (here.here c.index_mut.result.now)
    ∙ ap (λ (e : RrKey × RRset). Some e.1) (sym c.index_mut.ensures.value) in
    (belongs_found c.args.key.now m c.index_mut.result.now.1 found c.args.new c.requires.belongs).0

pub insert-requires-clause-kind : goal.insert-requires-clause-kind
insert-requires-clause-kind c =
    let m = c.args.rows.now.items in
    let here = subst (λ (n : Sets). IsPlaceOf n c.args.key.now c.in-Some.place) c.as_slice.ensures.value c.in-Some.ensures in
    let found : lookup (key_eq c.args.key.now) m ≡ Some c.index_mut.result.now.1 =
    found_at_place c.args.key.now m c.in-Some.place c.index_mut.result.now c.requires.ordered here.within (here.here c.index_mut.result.now)
    ∙ ap (λ (e : RrKey × RRset). Some e.1) (sym c.index_mut.ensures.value) in
    (belongs_found c.args.key.now m c.index_mut.result.now.1 found c.args.new c.requires.belongs).1

pub returns-in-Some-clause-inserted : goal.returns-in-Some-clause-inserted
returns-in-Some-clause-inserted c =
    let m = c.args.rows.now.items in
    let here = subst (λ (n : Sets). IsPlaceOf n c.args.key.now c.in-Some.place) c.as_slice.ensures.value c.in-Some.ensures in
    let found : lookup (key_eq c.args.key.now) m ≡ Some c.index_mut.result.now.1 =
    found_at_place c.args.key.now m c.in-Some.place c.index_mut.result.now c.requires.ordered here.within (here.here c.index_mut.result.now)
    ∙ ap (λ (e : RrKey × RRset). Some e.1) (sym c.index_mut.ensures.value) in
    let is_set : slice_set m c.in-Some.place (c.index_mut.result.now.0, c.insert.new.self) ≡ set_value (key_eq c.args.key.now) m c.insert.new.self =
    ap (λ (e : RrKey × RRset). slice_set m c.in-Some.place (e.0, c.insert.new.self)) c.index_mut.ensures.value
    ∙ set_at_place c.args.key.now m c.in-Some.place c.index_mut.result.now c.insert.new.self c.requires.ordered here.within (here.here c.index_mut.result.now) in
    subst (λ (n : Sets). IsInsertion m (inserted_under c.args.new c.args.serial c.args.key.now m) c.insert.result n) (sym is_set)
    (inserted_found c.args.key.now m c.index_mut.result.now.1 found c.args.new c.args.serial c.insert.result c.insert.new.self c.insert.ensures)

pub returns-in-Some-clause-ordered : goal.returns-in-Some-clause-ordered
returns-in-Some-clause-ordered c =
    let m = c.args.rows.now.items in
    let here = subst (λ (n : Sets). IsPlaceOf n c.args.key.now c.in-Some.place) c.as_slice.ensures.value c.in-Some.ensures in
    let found : lookup (key_eq c.args.key.now) m ≡ Some c.index_mut.result.now.1 =
    found_at_place c.args.key.now m c.in-Some.place c.index_mut.result.now c.requires.ordered here.within (here.here c.index_mut.result.now)
    ∙ ap (λ (e : RrKey × RRset). Some e.1) (sym c.index_mut.ensures.value) in
    let is_set : slice_set m c.in-Some.place (c.index_mut.result.now.0, c.insert.new.self) ≡ set_value (key_eq c.args.key.now) m c.insert.new.self =
    ap (λ (e : RrKey × RRset). slice_set m c.in-Some.place (e.0, c.insert.new.self)) c.index_mut.ensures.value
    ∙ set_at_place c.args.key.now m c.in-Some.place c.index_mut.result.now c.insert.new.self c.requires.ordered here.within (here.here c.index_mut.result.now) in
    subst (λ (n : Sets). IsStrictlySortedBy key_cmp (keys_of n)) (sym is_set) (sorted_set c.args.key.now m c.insert.new.self c.requires.ordered)

pub returns-in-None-clause-inserted : goal.returns-in-None-clause-inserted
returns-in-None-clause-inserted c =
    inserted_absent c.args.key.now c.args.rows.now.items c.args.new c.args.serial
    (subst (λ (n : Sets). lookup (key_eq c.args.key.now) n ≡ None) c.as_slice.ensures.value c.in-None.ensures)
