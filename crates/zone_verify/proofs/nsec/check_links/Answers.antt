use Rattle.std.proofs.Common.{◌≡◌, ◌==◌, ◌+◌, ℕ, List, ◌∷◌, ◌++◌, map, take, drop, refl, sym, ap, ◌∙◌, subst, eq-eqb, arith}
use Rattle.std.specs.Prelude.{Some, option_map, slice_get, unwrap_or}
use Rattle.std.proofs.Math.ListN.{drop_of_length-le}
use Rattle.std.proofs.lemmas.List.{take-append-drop, drop_more}
use Rattle.zone_proto.specs.declared.rr_key.RrKey.{RrKey}
use Rattle.zone_proto.specs.Keys.{key}
use Rattle.zone_proto.specs.Names.{Name}
use Rattle.zone_proto.specs.Sets.{RRset}
use Rattle.zone_proto.specs.Types.{NSEC}
use Rattle.zone_proto.proofs.Members.{In, In-filter, In-from_map}
use Rattle.zone_map.specs.Zones.{Sets}
use Rattle.zone_denial.specs.Chains.{next_owner}
use Rattle.zone_denial.specs.NsecCircle.{next_of}
use Rattle.zone_denial.proofs.Chains.ChainSets.{entry_of}
use Rattle.zone_verify.proofs.Links.{Lent, entry, next_here}
use Rattle.zone_verify.proofs.Passing.{passed, all_passed}
use Rattle.zone_verify.proofs.nsec.check_links.Goals as goal

abbrev LeadsOn : Name → Sets → Lent → Type 0
LeadsOn origin m e = next_of e.1.now ≡ Some (next_owner origin m e.0.now.name)

pub loop-i-preserved : goal.loop-i-preserved
loop-i-preserved c =
    let origin : Name = c.args.origin.now in
    let m : Sets = c.args.records.now in
    let es : List Lent = c.in_ok-entries.entries.items in
    let x : Lent = c.index.result.now in
    let i : ℕ = c.loop-i.i in
    let rest : List Lent = drop (i + 1) es in
    let split : drop i es ≡ x ∷ rest = drop_more es i x (omega (arith, c.loop-i-test.true, c.len-i-end.ensures)) ∙ ap (λ (y : Lent). y ∷ rest) (sym c.index.ensures) in
    let whole : es ≡ take i es ++ x ∷ rest = sym (take-append-drop i es) ∙ ap (λ (ys : List Lent). take i es ++ ys) split in
    let next = c.first_name-next.ensures ∙ ap (λ (ys : List Lent). unwrap_or (option_map (λ (e : Lent). e.0.now.name) (slice_get ys 0)) origin) (c.behind.ensures ∙ ap (drop (i + 1)) c.as_slice.ensures.value) in
    let on : LeadsOn origin m x =
    c.in_ok-leads_to.ensures c.if-not-branch.false ∙ ap Some (next ∙ sym (next_here origin m c.in_ok-entries.ensures.zone es c.in_ok-entries.ensures.entries (take i es) rest x whole)) in
    passed (LeadsOn origin m) es (drop i es) rest x split on c.loop-i.invariant

pub returns : goal.returns
returns c = λ n s e.
    let origin : Name = c.args.origin.now in
    let m : Sets = c.args.records.now in
    let es : List Lent = c.in_ok-entries.entries.items in
    let is_nsec = λ (d : RrKey × RRset). d.0.record_type.0 == NSEC in
    let own : RrKey × RRset = (key n NSEC, s) in
    let listed : In own (map entry es) = subst (In own) (sym c.in_ok-entries.ensures.entries) (In-filter is_nsec own m (entry_of m (key n NSEC) s e) (eq-eqb NSEC NSEC refl)) in
    let found = In-from_map entry own es listed in
    let on = all_passed (LeadsOn origin m) es (drop c.loop-i.i es) (drop_of_length-le es (omega (arith, c.loop-i-test.false, c.len-i-end.ensures))) c.loop-i.invariant found.0 found.1 in
    subst (λ (d : RrKey × RRset). next_of d.1 ≡ Some (next_owner origin m d.0.name)) found.2 on
