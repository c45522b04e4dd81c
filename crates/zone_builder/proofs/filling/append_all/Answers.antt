use Rattle.std.proofs.Common.{◌≡◌, List, [], ◌∷◌, sym, ap, ◌∙◌, subst}
use Rattle.std.specs.Prelude.{map, fold}
use Rattle.std.specs.List.{AllByRecursion}
use Rattle.std.proofs.lemmas.List.{nil_from_length}
use Rattle.std.specs.Vec.Iter.{into_iter_items, into_iter_deque}
use Rattle.zone_proto.specs.declared.record.Record.{Record}
use Rattle.zone_proto.specs.Data.{type_of}
use Rattle.zone_proto.specs.Names.{lower}
use Rattle.zone_proto.specs.Sets.{RRset, is_single, stores}
use Rattle.zone_map.proofs.Upserting.{same_from_lower}
use Rattle.zone_builder.specs.declared.given.GivenRecord.{GivenRecord}
use Rattle.zone_builder.specs.Records.{records_of}
use Rattle.zone_builder.specs.Repeats.{appending, AreNew}
use Rattle.zone_builder.specs.Sets.{with_ttl}
use Rattle.zone_builder.proofs.filling.append_all.Goals as goal

pub append-requires-clause-owner : goal.append-requires-clause-owner
append-requires-clause-owner c =
    same_from_lower c.with_ttl.result.name c.loop-given.set.owner
    (ap (λ (r : Record). lower r.name) c.with_ttl.ensures
    ∙ (subst (AllByRecursion (λ (g : GivenRecord). lower g.record.name ≡ c.args.key.now.name)) c.in-Some.ensures.steps.0 c.loop-given.invariant.owners).0
    ∙ sym c.loop-given.invariant.owner)

pub append-requires-clause-kind : goal.append-requires-clause-kind
append-requires-clause-kind c =
    ap (λ (r : Record). type_of r.rdata) c.with_ttl.ensures
    ∙ (subst (AllByRecursion (λ (g : GivenRecord). type_of g.record.rdata ≡ c.args.key.now.record_type.0)) c.in-Some.ensures.steps.0 c.loop-given.invariant.types).0
    ∙ sym c.loop-given.invariant.kind

pub append-requires-clause-several : goal.append-requires-clause-several
append-requires-clause-several c = ap is_single c.loop-given.invariant.kind ∙ c.requires.several

pub append-requires-clause-absent : goal.append-requires-clause-absent
append-requires-clause-absent c =
    ap (λ (r : Record). stores c.loop-given.set.records r.rdata) c.with_ttl.ensures
    ∙ (subst (AreNew c.args.ttl c.loop-given.set.records) c.in-Some.ensures.steps.0 c.loop-given.invariant.new).0

pub loop-given-preserved : goal.loop-given-preserved
loop-given-preserved c =
    let left = into_iter_items c.next.new.self in
    let steps : into_iter_items c.loop-given.given-iterator ≡ c.in-Some.given ∷ left = c.in-Some.ensures.steps.0 in
    let rest = λ (s : RRset) (xs : List GivenRecord). fold (appending c.args.serial) s (map (with_ttl c.args.ttl) (records_of xs)) in
    let made : c.append.new.self ≡ appending c.args.serial c.loop-given.set (with_ttl c.args.ttl c.in-Some.given.record) =
    c.in_ok-append.ensures.ok ∙ ap (appending c.args.serial c.loop-given.set) c.with_ttl.ensures in
    record {
      owner = ap (λ (s : RRset). lower s.owner) made ∙ c.loop-given.invariant.owner;
      kind = ap (λ (s : RRset). s.record_type) made ∙ c.loop-given.invariant.kind;
      owners = (subst (AllByRecursion (λ (g : GivenRecord). lower g.record.name ≡ c.args.key.now.name)) steps c.loop-given.invariant.owners).1;
      types = (subst (AllByRecursion (λ (g : GivenRecord). type_of g.record.rdata ≡ c.args.key.now.record_type.0)) steps c.loop-given.invariant.types).1;
      new = subst (λ (s : RRset). AreNew c.args.ttl s.records left) (sym made) (subst (AreNew c.args.ttl c.loop-given.set.records) steps c.loop-given.invariant.new).1;
      same = ap (λ s. rest s left) made ∙ sym (ap (rest c.loop-given.set) steps) ∙ c.loop-given.invariant.same;
    }

pub returns-clause-ok : goal.returns-clause-ok
returns-clause-ok c =
    let left = c.loop-given.given-iterator in
    let none : into_iter_items left ≡ [] = nil_from_length (into_iter_items left) (sym (into_iter_deque left).ok.0 ∙ c.in-None.ensures.steps.0) in
    sym (ap (λ (xs : List GivenRecord). fold (appending c.args.serial) c.loop-given.set (map (with_ttl c.args.ttl) (records_of xs))) none) ∙ c.loop-given.invariant.same
