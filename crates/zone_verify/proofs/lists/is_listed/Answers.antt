use Rattle.std.proofs.Common.{◌≡◌, ◌==◌, ℕ, List, map, sym, ◌∙◌, subst, eqb-true}
use Rattle.std.specs.Prelude.{slice_index_or}
use Rattle.std.proofs.lemmas.List.Elements.{Contains-get_or}
use Rattle.std.proofs.lemmas.Map.Lookups.{exact_unsigned}
use Rattle.zone_proto.specs.declared.record_type.RecordType.{RecordType}
use Rattle.zone_proto.proofs.Members.{In, Contains-In, In-Contains, In-from_any, In-map}
use Rattle.zone_verify.proofs.lists.is_listed.Goals as goal

pub returns-in-Ok : goal.returns-in-Ok
returns-in-Ok c = λ _.
    let types : List RecordType = c.args.types.now in
    let numbers : List ℕ = map (λ u. u.0) types in
    let i = c.in-Ok.field-0 in
    let there : RecordType = slice_index_or types i c.args.record_type in
    let same : there.0 ≡ c.args.record_type.0 = exact_unsigned there.0 c.args.record_type.0 (c.in-Ok.ensures.ok c.args.record_type) in
    In-Contains c.args.record_type.0 numbers
    (subst (λ (t : ℕ). In t numbers) same (In-map (λ (u : RecordType). u.0) there types (Contains-In there types (Contains-get_or types i c.args.record_type c.in-Ok.ensures.bound))))

pub returns-in-Err : goal.returns-in-Err
returns-in-Err c = λ h.
    let numbers : List ℕ = map (λ u. u.0) c.args.types.now in
    let r = In-from_any (λ (y : RecordType). y.0 == c.args.record_type.0) c.args.types.now (sym c.contains.ensures.value ∙ h) in
    In-Contains c.args.record_type.0 numbers
    (subst (λ (t : ℕ). In t numbers) (eqb-true r.0.0 c.args.record_type.0 r.2) (In-map (λ (u : RecordType). u.0) r.0 c.args.types.now r.1))
