use Rattle.std.proofs.Common.{◌≡◌, List, [], ◌∷◌, sym, ap, ◌∙◌, subst}
use Rattle.std.specs.Prelude.{map, fold}
use Rattle.std.specs.List.{AllByRecursion}
use Rattle.std.proofs.lemmas.List.{nil_from_length}
use Rattle.std.specs.Vec.Iter.{into_iter_items, into_iter_deque}
use Rattle.zone_proto.specs.declared.record.Record.{Record}
use Rattle.zone_proto.specs.Data.{type_of}
use Rattle.zone_proto.specs.Names.{lower}
use Rattle.zone_proto.specs.Sets.{RRset}
use Rattle.zone_builder.specs.declared.given.GivenRecord.{GivenRecord}
use Rattle.zone_denial.specs.Nsec3Sets.{with_taken}
use Rattle.zone_builder.specs.Records.{records_of}
use Rattle.zone_builder.specs.Sets.{with_ttl}
use Rattle.zone_builder.proofs.filling.insert_all.Goals as goal

pub insert-requires-clause-own : goal.insert-requires-clause-own
insert-requires-clause-own c =
    ap (λ (r : Record). lower r.name) c.with_ttl.ensures
    ∙ (subst (AllByRecursion (λ (g : GivenRecord). lower g.record.name ≡ c.args.key.now.name)) c.in-Some.ensures.steps.0 c.loop-given.invariant.owners).0

pub insert-requires-clause-own_kind : goal.insert-requires-clause-own_kind
insert-requires-clause-own_kind c =
    ap (λ (r : Record). type_of r.rdata) c.with_ttl.ensures
    ∙ (subst (AllByRecursion (λ (g : GivenRecord). type_of g.record.rdata ≡ c.args.key.now.record_type.0)) c.in-Some.ensures.steps.0 c.loop-given.invariant.types).0

pub loop-given-preserved : goal.loop-given-preserved
loop-given-preserved c =
    let left = into_iter_items c.next.new.self in
    let steps : into_iter_items c.loop-given.given-iterator ≡ c.in-Some.given ∷ left = c.in-Some.ensures.steps.0 in
    let rest = λ (s : RRset) (xs : List GivenRecord). fold (with_taken c.args.serial) s (map (with_ttl c.args.ttl) (records_of xs)) in
    record {
      owner = c.in_ok-insert.ensures.owner;
      kind = c.in_ok-insert.ensures.kind;
      owners = (subst (AllByRecursion (λ (g : GivenRecord). lower g.record.name ≡ c.args.key.now.name)) steps c.loop-given.invariant.owners).1;
      types = (subst (AllByRecursion (λ (g : GivenRecord). type_of g.record.rdata ≡ c.args.key.now.record_type.0)) steps c.loop-given.invariant.types).1;
      same =
          ap (λ s. rest s left) (c.in_ok-insert.ensures.ok ∙ ap (with_taken c.args.serial c.loop-given.set) c.with_ttl.ensures)
          ∙ sym (ap (rest c.loop-given.set) steps) ∙ c.loop-given.invariant.same;
    }

pub returns-clause-ok : goal.returns-clause-ok
returns-clause-ok c =
    let left = c.loop-given.given-iterator in
    let none : into_iter_items left ≡ [] = nil_from_length (into_iter_items left) (sym (into_iter_deque left).ok.0 ∙ c.in-None.ensures.steps.0) in
    sym (ap (λ (xs : List GivenRecord). fold (with_taken c.args.serial) c.loop-given.set (map (with_ttl c.args.ttl) (records_of xs))) none) ∙ c.loop-given.invariant.same
