use Rattle.std.proofs.Common.{sym, ap, ◌∙◌}
use Rattle.std.specs.Option.{option_or}
use Rattle.denial_validation.specs.Nsec3Proofs.{wildcard_answer}
use Rattle.denial_validation.specs.Nsec3Responses.{hash_of}
use Rattle.denial_validation.proofs.EncloserProofs.{covered_by, answered_by}
use Rattle.denial_validation.proofs.WildcardAnswers.{answers_end, answers_on}
use Rattle.denial_validation.proofs.nsec3_response.Nsec3Response.wildcard_answer_above.Goals as goal

pub loop-rest-preserved : goal.loop-rest-preserved
loop-rest-preserved g c =
    let apex = c.args.self.now.apex in
    let hash = hash_of g.H.Nsec3Hash.digest_of c.args.self.now in
    let rs = c.args.self.now.records in
    let n = c.loop-rest.rest in
    let rest = c.shorten.new.self in
    let covered = c.in_ok-covered.ensures.ok ∙ covered_by apex hash rs n _ (c.as_ref.ensures.value ∙ c.in_ok-hashed.ensures.ok) in
    let answer = c.in_ok-answer.ensures.ok ∙ answered_by apex hash rs n _ (c.as_ref-in-loop-rest.ensures.value ∙ c.in_ok-hashed.ensures.ok) c.in_ok-covered.covered rest c.loop-rest.answer in
    ap (option_or (wildcard_answer apex hash rs rest)) answer
    ∙ sym (answers_on apex hash rs n rest c.in_ok-covered.covered c.loop-rest.answer (sym c.is_below_apex.ensures ∙ c.loop-rest-test.true) covered c.shorten.ensures)
    ∙ c.loop-rest.invariant

pub loop-rest-preserved-in_ok-answer : goal.loop-rest-preserved-in_ok-answer
loop-rest-preserved-in_ok-answer g c =
    let apex = c.args.self.now.apex in
    let hash = hash_of g.H.Nsec3Hash.digest_of c.args.self.now in
    let rs = c.args.self.now.records in
    let n = c.loop-rest.rest in
    let rest = c.shorten.new.self in
    let covered = c.in_ok-covered.ensures.ok ∙ covered_by apex hash rs n _ (c.as_ref.ensures.value ∙ c.in_ok-hashed.ensures.ok) in
    let answer = c.in_ok-answer.ensures.ok ∙ answered_by apex hash rs n _ (c.as_ref-in-loop-rest.ensures.value ∙ c.in_ok-hashed.ensures.ok) c.in_ok-covered.covered rest c.loop-rest.answer in
    ap (option_or (wildcard_answer apex hash rs rest)) answer
    ∙ sym (answers_on apex hash rs n rest c.in_ok-covered.covered c.loop-rest.answer (sym c.is_below_apex.ensures ∙ c.loop-rest-test.true) covered c.shorten.ensures)
    ∙ c.loop-rest.invariant

pub returns-clause-ok : goal.returns-clause-ok
returns-clause-ok g c =
    let apex = c.args.self.now.apex in
    let hash = hash_of g.H.Nsec3Hash.digest_of c.args.self.now in
    let rs = c.args.self.now.records in
    sym (answers_end apex hash rs c.loop-rest.rest c.loop-rest.answer (sym c.is_below_apex.ensures ∙ c.loop-rest-test.false)) ∙ c.loop-rest.invariant
