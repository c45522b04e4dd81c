use Rattle.std.proofs.Common.{List, subst, sym}
use Rattle.zone_proto.specs.Names.{Name}
use Rattle.zone_proto.specs.Sets.{RRset}
use Rattle.message_writing.specs.KnownNames.{IsKnown}
use Rattle.message_writing.specs.declared.kept_records.KeptRecords.{KeptRecords}
use Rattle.message_writing.specs.declared.response.Section.TheVariants.{Answers}
use Rattle.zone_server.proofs.GroupFacts.{puts_none, puts_sections}
use Rattle.ready_referrals.proofs.KeptReferrals.{additional_kept, additional_placed, authorities_kept, authorities_placed}
use Rattle.ready_referrals.specs.Referrals.{referral, AreSetsKept}
use Rattle.ready_referrals.proofs.referring.put_sections.Goals as goal

pub put_kept_sets-requires-clause-kept : goal.put_kept_sets-requires-clause-kept
put_kept_sets-requires-clause-kept c =
    let r = c.args.kept.now in
    let o₀ = c.args.out.now.items in
    let k₀ = subst (λ o. IsKnown o c.in-Some.place r.cut) c.deref.ensures.value c.in-Some.ensures in
    subst (λ (ks : List KeptRecords). (x : Name) × (ss : List RRset) × IsKnown o₀ c.in-Some.place x × AreSetsKept x ss ks) (sym c.authorities.ensures)
    (authorities_placed r c.args.signed c.requires.kept.0 c.requires.kept.1 o₀ c.in-Some.place k₀)

pub put_kept_sets-requires-3-clause-kept : goal.put_kept_sets-requires-3-clause-kept
put_kept_sets-requires-3-clause-kept c =
    let r = c.args.kept.now in
    let o₂ = c.put_kept_sets-2.new.out.items in
    let k₀ = subst (λ o. IsKnown o c.in-Some.place r.cut) c.deref.ensures.value c.in-Some.ensures in
    let k₁ = c.in_ok-put_kept_sets.ensures.known c.in-Some.place r.cut k₀ in
    let k₂ = c.in_ok-put_kept_sets-2.ensures.known c.in-Some.place r.cut k₁ in
    subst (λ (ks : List KeptRecords). (x : Name) × (ss : List RRset) × IsKnown o₂ c.in-Some.place x × AreSetsKept x ss ks) (sym c.sets.ensures)
    (additional_placed r c.args.signed c.requires.kept.0 c.requires.kept.1 o₂ c.in-Some.place k₂)

pub returns-clause-put : goal.returns-clause-put
returns-clause-put c = λ t z soa ns kept.
    let r = c.args.kept.now in
    let s = referral z soa c.args.signed ns in
    let w₀ = c.args.writer.now in
    let w₁ = c.put_kept_sets.new.writer in
    let w₂ = c.put_kept_sets-2.new.writer in
    let w₃ = c.put_kept_sets-3.new.writer in
    let o₀ = c.args.out.now.items in
    let o₁ = c.put_kept_sets.new.out.items in
    let o₂ = c.put_kept_sets-2.new.out.items in
    let o₃ = c.put_kept_sets-3.new.out.items in
    let k₀ = subst (λ o. IsKnown o c.in-Some.place r.cut) c.deref.ensures.value c.in-Some.ensures in
    let k₁ = c.in_ok-put_kept_sets.ensures.known c.in-Some.place r.cut k₀ in
    let k₂ = c.in_ok-put_kept_sets-2.ensures.known c.in-Some.place r.cut k₁ in
    puts_sections s w₀ w₀ w₁ w₂ w₃ o₀ o₀ o₁ o₂ o₃ (puts_none Answers w₀ o₀)
    (c.in_ok-put_kept_sets.ensures.put r.cut s.authorities k₀ (subst (AreSetsKept r.cut s.authorities) (sym c.authorities.ensures) (authorities_kept z soa ns r kept c.args.signed)))
    (c.in_ok-put_kept_sets-2.ensures.put r.cut s.glue k₁ (subst (AreSetsKept r.cut s.glue) (sym c.as_slice.ensures.value) kept.kept.glue))
    (c.in_ok-put_kept_sets-3.ensures.put r.cut s.additionals k₂ (subst (AreSetsKept r.cut s.additionals) (sym c.sets.ensures) (additional_kept z soa ns r kept c.args.signed)))
