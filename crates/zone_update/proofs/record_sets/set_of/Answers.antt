use Rattle.std.proofs.Common.{◌≡◌, [], ◌∷◌, sym, ap, ◌∙◌, subst}
use Rattle.std.specs.Prelude.{fold}
use Rattle.std.specs.List.{AllByRecursion}
use Rattle.std.proofs.lemmas.List.{nil_from_length}
use Rattle.std.specs.Vec.Iter.{into_iter_items, into_iter_deque}
use Rattle.zone_proto.specs.declared.record.Record.{Record}
use Rattle.zone_proto.specs.Data.{type_of}
use Rattle.zone_proto.specs.Names.{lower}
use Rattle.zone_proto.specs.Sets.{RRset}
use Rattle.zone_map.proofs.Upserting.{same_from_lower}
use Rattle.zone_update.specs.Processing.{with_taken}
use Rattle.zone_update.proofs.TakenSets.{keeps}
use Rattle.zone_update.proofs.record_sets.set_of.Goals as goal

pub insert-requires-clause-owner : goal.insert-requires-clause-owner
insert-requires-clause-owner c =
    same_from_lower c.in-Some.given.name c.loop-given.set.owner
    ((subst (AllByRecursion (λ (r : Record). lower r.name ≡ lower c.args.owner)) c.in-Some.ensures.steps.0 c.loop-given.invariant.owners).0 ∙ sym c.loop-given.invariant.owner)

pub insert-requires-clause-kind : goal.insert-requires-clause-kind
insert-requires-clause-kind c =
    (subst (AllByRecursion (λ (r : Record). type_of r.rdata ≡ c.args.record_type.0)) c.in-Some.ensures.steps.0 c.loop-given.invariant.types).0 ∙ sym c.loop-given.invariant.kind

pub loop-given-preserved : goal.loop-given-preserved
loop-given-preserved c =
    let left = into_iter_items c.next.new.self in
    let steps : into_iter_items c.loop-given.given-iterator ≡ c.in-Some.given ∷ left = c.in-Some.ensures.steps.0 in
    let now : c.insert.new.self ≡ with_taken c.args.serial c.loop-given.set c.in-Some.given = c.in_ok-insert.ensures.after in
    let kept = keeps c.loop-given.set c.in-Some.given c.args.serial in
    record {
      owner = ap (λ (s : RRset). lower s.owner) now ∙ ap lower kept.0 ∙ c.loop-given.invariant.owner;
      kind = ap (λ (s : RRset). s.record_type) now ∙ kept.1 ∙ c.loop-given.invariant.kind;
      owners = (subst (AllByRecursion (λ (r : Record). lower r.name ≡ lower c.args.owner)) steps c.loop-given.invariant.owners).1;
      types = (subst (AllByRecursion (λ (r : Record). type_of r.rdata ≡ c.args.record_type.0)) steps c.loop-given.invariant.types).1;
      same = ap (λ s. fold (with_taken c.args.serial) s left) now ∙ sym (ap (fold (with_taken c.args.serial) c.loop-given.set) steps) ∙ c.loop-given.invariant.same;
    }

pub returns-clause-ok : goal.returns-clause-ok
returns-clause-ok c =
    let left = c.loop-given.given-iterator in
    let none : into_iter_items left ≡ [] = nil_from_length (into_iter_items left) (sym (into_iter_deque left).ok.0 ∙ c.in-None.ensures.steps.0) in
    sym (ap (fold (with_taken c.args.serial) c.loop-given.set) none) ∙ c.loop-given.invariant.same
