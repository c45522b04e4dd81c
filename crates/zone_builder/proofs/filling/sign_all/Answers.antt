use Rattle.std.proofs.Common.{◌≡◌, true, ◌∷◌, [], sym, ap, ◌∙◌, subst}
use Rattle.std.specs.List.{AllByRecursion}
use Rattle.std.proofs.lemmas.List.{nil_from_length}
use Rattle.std.specs.Vec.Iter.{into_iter_items, into_iter_deque}
use Rattle.zone_proto.specs.declared.record.Record.{Record}
use Rattle.zone_proto.specs.Data.{type_of}
use Rattle.zone_builder.specs.declared.given.GivenRecord.{GivenRecord}
use Rattle.zone_builder.specs.Records.{is_signature}
use Rattle.zone_builder.proofs.Making.{signature_type}
use Rattle.zone_builder.proofs.SignedSets.{signing_one, signing_none}
use Rattle.zone_builder.proofs.filling.sign_all.Goals as goal

pub insert_rrsig-requires : goal.insert_rrsig-requires
insert_rrsig-requires c = record {
  kind =
      ap (λ (r : Record). type_of r.rdata) c.with_ttl.ensures
      ∙ signature_type c.in-Some.given.record.rdata (subst (AllByRecursion (λ (g : GivenRecord). is_signature g.record.rdata ≡ true)) c.in-Some.ensures.steps.0 c.loop-given.invariant.kinds).0;
}

pub loop-given-preserved : goal.loop-given-preserved
loop-given-preserved c =
    let left = into_iter_items c.next.new.self in
    let steps : into_iter_items c.loop-given.given-iterator ≡ c.in-Some.given ∷ left = c.in-Some.ensures.steps.0 in
    record {
      kinds = (subst (AllByRecursion (λ (g : GivenRecord). is_signature g.record.rdata ≡ true)) steps c.loop-given.invariant.kinds).1;
      same =
          signing_one c.args.ttl c.loop-given.set c.insert_rrsig.new.self c.with_ttl.result c.in-Some.given left (into_iter_items c.loop-given.given-iterator) steps c.with_ttl.ensures c.in_ok-insert_rrsig.ensures.ok
          ∙ c.loop-given.invariant.same;
    }

pub returns-clause-ok : goal.returns-clause-ok
returns-clause-ok c =
    let left = c.loop-given.given-iterator in
    let none : into_iter_items left ≡ [] = nil_from_length (into_iter_items left) (sym (into_iter_deque left).ok.0 ∙ c.in-None.ensures.steps.0) in
    signing_none c.args.ttl c.loop-given.set (into_iter_items left) none ∙ c.loop-given.invariant.same
