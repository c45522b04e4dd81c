use Rattle.std.proofs.Common.{◌≡◌, true, false, ◌++◌, sym, ap, drop, ◌∙◌}
use Rattle.std.specs.Option.{option_or}
use Rattle.zone_proto.specs.Names.{base_name, is_above}
use Rattle.denial_validation.specs.Nsec3Proofs.{owner_of, is_matched, shown_encloser, wildcard_answer}
use Rattle.denial_validation.specs.Nsec3Responses.{hash_of}
use Rattle.denial_validation.proofs.EncloserProofs.{matched_by, encloser_by, covered_by, answered_by}
use Rattle.denial_validation.proofs.ShownWalk.{base_is_drop, walk_ends, walk_found, walk_on, passed_on, closer_is}
use Rattle.denial_validation.proofs.WildcardAnswers.{answers_end, answers_on}
use Rattle.denial_validation.proofs.nsec3_response.Nsec3Response.encloser_walk.Goals as goal

pub returns-then-is_matched-clause-shown : goal.returns-then-is_matched-clause-shown
returns-then-is_matched-clause-shown g c =
    let apex = c.args.self.now.apex in
    let hash = hash_of g.H.Nsec3Hash.digest_of c.args.self.now in
    let rs = c.args.self.now.records in
    let n = c.loop-hashed.next_closer in
    let owner = c.as_ref-in-loop-hashed-2.ensures.value ∙ c.in_ok-owner.ensures.ok ∙ ap (owner_of apex hash) c.loop-hashed.invariant.above in
    let matched : is_matched apex hash rs (drop 1 n) ≡ true =
    sym (c.is_matched.ensures ∙ matched_by apex hash rs (drop 1 n) _ owner) ∙ c.if-is_matched.true in
    sym (c.loop-hashed.invariant.shown ∙ walk_found apex hash rs n (sym c.is_below_apex.ensures ∙ c.loop-hashed-test.true) matched)

pub returns-then-is_matched-clause-closer : goal.returns-then-is_matched-clause-closer
returns-then-is_matched-clause-closer g c =
    closer_is c.args.self.now.apex c.loop-hashed.next_closer c.args.self.now.name c.loop-hashed.invariant.passed.0 (sym c.is_below_apex.ensures ∙ c.loop-hashed-test.true) c.loop-hashed.invariant.passed.1

pub returns-then-is_matched-clause-covered : goal.returns-then-is_matched-clause-covered
returns-then-is_matched-clause-covered g c =
    c.in_ok-covered.ensures.ok
    ∙ covered_by c.args.self.now.apex (hash_of g.H.Nsec3Hash.digest_of c.args.self.now) c.args.self.now.records c.loop-hashed.next_closer _ (c.as_ref.ensures.value ∙ c.loop-hashed.invariant.hashed)

pub returns-then-is_matched-clause-in_zone : goal.returns-then-is_matched-clause-in_zone
returns-then-is_matched-clause-in_zone g c =
    let apex = c.args.self.now.apex in
    let hash = hash_of g.H.Nsec3Hash.digest_of c.args.self.now in
    let n = c.loop-hashed.next_closer in
    let owner = c.as_ref-then-is_matched.ensures.value ∙ c.in_ok-owner.ensures.ok ∙ ap (owner_of apex hash) (c.loop-hashed.invariant.above ∙ sym (base_is_drop n)) in
    c.is_encloser-in_zone.ensures ∙ encloser_by apex hash c.args.self.now.records (base_name n) _ owner

pub loop-hashed-preserved : goal.loop-hashed-preserved
loop-hashed-preserved g c =
    let apex = c.args.self.now.apex in
    let hash = hash_of g.H.Nsec3Hash.digest_of c.args.self.now in
    let rs = c.args.self.now.records in
    let n = c.loop-hashed.next_closer in
    let now : c.shorten.new.self ≡ drop 1 n = c.shorten.ensures in
    let below : is_above apex n ≡ true = sym c.is_below_apex.ensures ∙ c.loop-hashed-test.true in
    let owner = c.as_ref-in-loop-hashed-2.ensures.value ∙ c.in_ok-owner.ensures.ok ∙ ap (owner_of apex hash) c.loop-hashed.invariant.above in
    let passed = passed_on apex n c.args.self.now.name c.loop-hashed.invariant.passed.0 below c.loop-hashed.invariant.passed.1 in
    let unmatched : is_matched apex hash rs (drop 1 n) ≡ false =
    sym (c.is_matched.ensures ∙ matched_by apex hash rs (drop 1 n) _ owner) ∙ c.if-is_matched.false in
    let covered = c.in_ok-covered.ensures.ok ∙ covered_by apex hash rs n _ (c.as_ref.ensures.value ∙ c.loop-hashed.invariant.hashed) in
    let on = answers_on apex hash rs n c.loop-hashed.above c.in_ok-covered.covered c.loop-hashed.answer below covered c.loop-hashed.invariant.above in
    let answer = c.in_ok-answer.ensures.ok ∙ answered_by apex hash rs n _ (c.as_ref-in-loop-hashed.ensures.value ∙ c.loop-hashed.invariant.hashed) c.in_ok-covered.covered c.loop-hashed.above c.loop-hashed.answer in
    record {
      above = c.shorten-in-loop-hashed.ensures ∙ ap (drop 1) (c.loop-hashed.invariant.above ∙ sym now);
      passed = (passed.0, passed.1 ∙ ap (λ m. passed.0 ++ m) (sym now));
      hashed = c.in_ok-owner.ensures.ok ∙ ap (owner_of apex hash) (c.loop-hashed.invariant.above ∙ sym now);
      shown = c.loop-hashed.invariant.shown ∙ walk_on apex hash rs n below unmatched ∙ ap (shown_encloser apex hash rs) (sym now);
      answer = (λ i. option_or (wildcard_answer apex hash rs ((now ∙ sym c.loop-hashed.invariant.above) i)) (answer i)) ∙ sym on ∙ c.loop-hashed.invariant.answer;
    }

pub returns-clause-shown : goal.returns-clause-shown
returns-clause-shown g c =
    sym
    (c.loop-hashed.invariant.shown
    ∙ walk_ends c.args.self.now.apex (hash_of g.H.Nsec3Hash.digest_of c.args.self.now) c.args.self.now.records c.loop-hashed.next_closer (sym c.is_below_apex.ensures ∙ c.loop-hashed-test.false))

pub returns-then-is_matched-clause-answer : goal.returns-then-is_matched-clause-answer
returns-then-is_matched-clause-answer g c =
    let apex = c.args.self.now.apex in
    let hash = hash_of g.H.Nsec3Hash.digest_of c.args.self.now in
    let rs = c.args.self.now.records in
    let n = c.loop-hashed.next_closer in
    let covered = c.in_ok-covered.ensures.ok ∙ covered_by apex hash rs n _ (c.as_ref.ensures.value ∙ c.loop-hashed.invariant.hashed) in
    let on = answers_on apex hash rs n c.loop-hashed.above c.in_ok-covered.covered c.loop-hashed.answer (sym c.is_below_apex.ensures ∙ c.loop-hashed-test.true) covered c.loop-hashed.invariant.above in
    let answer = c.in_ok-answer.ensures.ok ∙ answered_by apex hash rs n _ (c.as_ref-in-loop-hashed.ensures.value ∙ c.loop-hashed.invariant.hashed) c.in_ok-covered.covered c.loop-hashed.above c.loop-hashed.answer in
    ap (λ a. option_or (wildcard_answer apex hash rs (base_name a)) c.in_ok-answer-2.answer) (base_is_drop n ∙ sym c.loop-hashed.invariant.above)
    ∙ c.in_ok-answer-2.ensures.ok ∙ ap (option_or (wildcard_answer apex hash rs c.loop-hashed.above)) answer ∙ sym on ∙ c.loop-hashed.invariant.answer

pub returns-clause-answer : goal.returns-clause-answer
returns-clause-answer g c =
    sym (answers_end c.args.self.now.apex (hash_of g.H.Nsec3Hash.digest_of c.args.self.now) c.args.self.now.records c.loop-hashed.next_closer c.loop-hashed.answer (sym c.is_below_apex.ensures ∙ c.loop-hashed-test.false))
    ∙ c.loop-hashed.invariant.answer
