use Rattle.std.proofs.Common.{map, subst, rules}
use Rattle.std.specs.List.{flat_map}
use Rattle.zone_response.specs.Sections.{sections, sent_set}
use Rattle.message_writing.specs.declared.response.Section.TheVariants.{Answers, Authorities, Glue, Additionals}
use Rattle.message_writing.specs.Outcomes.{FailsToPutAny}
use Rattle.zone_server.specs.Answers.{records_sent}
use Rattle.zone_server.specs.Sending.{PutsSets}
use Rattle.zone_server.proofs.GroupFacts.{additionals_fail, answers_fail, authorities_fail, glue_fails, puts_sections}
use Rattle.zone_server.proofs.groups.put_sections.Goals as goal

pub returns-clause-put : goal.returns-clause-put
returns-clause-put c =
    let s = sections c.args.response.now in
    let w₀ = c.args.writer.now in
    let w₁ = c.put_sets.new.writer in
    let w₂ = c.put_sets-2.new.writer in
    let w₃ = c.put_sets-3.new.writer in
    let w₄ = c.put_sets-4.new.writer in
    let o₀ = c.args.out.now.items in
    let o₁ = c.put_sets.new.out.items in
    let o₂ = c.put_sets-2.new.out.items in
    let o₃ = c.put_sets-3.new.out.items in
    let o₄ = c.put_sets-4.new.out.items in
    puts_sections s w₀ w₁ w₂ w₃ w₄ o₀ o₁ o₂ o₃ o₄
    (subst (λ sets. PutsSets Answers (map sent_set sets) w₀ o₀ w₁ o₁) c.as_slice.ensures.value c.in_ok-put_sets.ensures.put)
    (subst (λ sets. PutsSets Authorities (map sent_set sets) w₁ o₁ w₂ o₂) c.as_slice-2.ensures.value c.in_ok-put_sets-2.ensures.put)
    (subst (λ sets. PutsSets Glue (map sent_set sets) w₂ o₂ w₃ o₃) c.as_slice-3.ensures.value c.in_ok-put_sets-3.ensures.put)
    (subst (λ sets. PutsSets Additionals (map sent_set sets) w₃ o₃ w₄ o₄) c.as_slice-4.ensures.value c.in_ok-put_sets-4.ensures.put)

pub returns-in_err-put_sets-clause-err : goal.returns-in_err-put_sets-clause-err
returns-in_err-put_sets-clause-err c =
    let s = sections c.args.response.now in
    let e = c.in_err-put_sets.field-0.0 in
    let told = answers_fail s e
    (subst (λ sets. FailsToPutAny (flat_map records_sent (map sent_set sets)) e) c.as_slice.ensures.value c.in_err-put_sets.ensures.err) in
    search (rules, told)

pub returns-in_err-put_sets-2-clause-err : goal.returns-in_err-put_sets-2-clause-err
returns-in_err-put_sets-2-clause-err c =
    let s = sections c.args.response.now in
    let e = c.in_err-put_sets-2.field-0.0 in
    let told = authorities_fail s e
    (subst (λ sets. FailsToPutAny (flat_map records_sent (map sent_set sets)) e) c.as_slice-2.ensures.value c.in_err-put_sets-2.ensures.err) in
    search (rules, told)

pub returns-in_err-put_sets-3-clause-err : goal.returns-in_err-put_sets-3-clause-err
returns-in_err-put_sets-3-clause-err c =
    let s = sections c.args.response.now in
    let e = c.in_err-put_sets-3.field-0.0 in
    let told = glue_fails s e
    (subst (λ sets. FailsToPutAny (flat_map records_sent (map sent_set sets)) e) c.as_slice-3.ensures.value c.in_err-put_sets-3.ensures.err) in
    search (rules, told)

pub returns-in_err-put_sets-4-clause-err : goal.returns-in_err-put_sets-4-clause-err
returns-in_err-put_sets-4-clause-err c =
    let s = sections c.args.response.now in
    let e = c.in_err-put_sets-4.field-0.0 in
    let told = additionals_fail s e
    (subst (λ sets. FailsToPutAny (flat_map records_sent (map sent_set sets)) e) c.as_slice-4.ensures.value c.in_err-put_sets-4.ensures.err) in
    search (rules, told)
