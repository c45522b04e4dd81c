use Rattle.std.proofs.Common.{Some, drop, refl, sym, ap, ◌∙◌}
use Rattle.std.specs.Prelude.{if◌then◌else◌}
use Rattle.std.specs.Option.{option_or}
use Rattle.std.proofs.lemmas.Result.{IfOk-weaker}
use Rattle.denial_validation.specs.declared.proof.Proof.TheVariants.{NameError, UnsignedDelegation, WildcardNoData}
use Rattle.denial_validation.specs.Nsec3Proofs.{is_covered, is_denied, wildcard_answer}
use Rattle.denial_validation.specs.Nsec3Responses.{hash_of}
use Rattle.denial_validation.proofs.EncloserProofs.{covered_by, denied_by}
use Rattle.denial_validation.proofs.Nsec3Sums.{with_wildcard}
use Rattle.denial_validation.proofs.ShownWalk.{base_of_base}
use Rattle.denial_validation.proofs.nsec3_response.Nsec3Response.proof_by_wildcard.Goals as goal

pub returns-then-is_left_out-clause-ok : goal.returns-then-is_left_out-clause-ok
returns-then-is_left_out-clause-ok g c =
    let apex = c.args.self.now.apex in
    let hash = hash_of g.H.Nsec3Hash.digest_of c.args.self.now in
    let rs = c.args.self.now.records in
    let x = c.args.self.now.name in
    let wildcard = c.args.encloser.wildcard in
    let t = c.args.record_type.0 in
    sym
    (with_wildcard apex hash rs x t c.requires.here wildcard c.requires.proved c.requires.wildcard (is_covered apex hash rs wildcard) (is_denied apex hash rs wildcard t) c.args.encloser.opted_out refl refl c.requires.opted_out
    ∙ (λ i. if (sym c.is_left_out.ensures ∙ c.if-is_left_out.true) i then Some UnsignedDelegation
    else (if is_covered apex hash rs wildcard then Some (NameError c.args.encloser.opted_out)
    else (if is_denied apex hash rs wildcard t then Some (WildcardNoData c.args.encloser.opted_out)
    else (if c.args.encloser.opted_out then Some UnsignedDelegation
    else wildcard_answer apex hash rs x)))))

pub returns-then-branch-clause-ok : goal.returns-then-branch-clause-ok
returns-then-branch-clause-ok g c =
    let apex = c.args.self.now.apex in
    let hash = hash_of g.H.Nsec3Hash.digest_of c.args.self.now in
    let rs = c.args.self.now.records in
    let x = c.args.self.now.name in
    let wildcard = c.args.encloser.wildcard in
    let t = c.args.record_type.0 in
    sym
    (with_wildcard apex hash rs x t c.requires.here wildcard c.requires.proved c.requires.wildcard c.in_ok-is_covered.field-0 (is_denied apex hash rs wildcard t) c.args.encloser.opted_out (c.in_ok-is_covered.ensures.ok ∙ covered_by apex hash rs wildcard _ (c.as_ref.ensures.value ∙ c.in_ok-wildcard.ensures.ok)) refl c.requires.opted_out
    ∙ (λ i. if (sym c.is_left_out.ensures ∙ c.if-is_left_out.false) i then Some UnsignedDelegation
    else (if c.if-branch.true i then Some (NameError c.args.encloser.opted_out)
    else (if is_denied apex hash rs wildcard t then Some (WildcardNoData c.args.encloser.opted_out)
    else (if c.args.encloser.opted_out then Some UnsignedDelegation
    else wildcard_answer apex hash rs x)))))

pub returns-then-denies_type-clause-ok : goal.returns-then-denies_type-clause-ok
returns-then-denies_type-clause-ok g c =
    let apex = c.args.self.now.apex in
    let hash = hash_of g.H.Nsec3Hash.digest_of c.args.self.now in
    let rs = c.args.self.now.records in
    let x = c.args.self.now.name in
    let wildcard = c.args.encloser.wildcard in
    let t = c.args.record_type.0 in
    sym
    (with_wildcard apex hash rs x t c.requires.here wildcard c.requires.proved c.requires.wildcard c.in_ok-is_covered.field-0 c.denies_type.result c.args.encloser.opted_out (c.in_ok-is_covered.ensures.ok ∙ covered_by apex hash rs wildcard _ (c.as_ref.ensures.value ∙ c.in_ok-wildcard.ensures.ok)) (c.denies_type.ensures ∙ denied_by apex hash rs wildcard _ (c.as_ref-2.ensures.value ∙ c.in_ok-wildcard.ensures.ok) t) c.requires.opted_out
    ∙ (λ i. if (sym c.is_left_out.ensures ∙ c.if-is_left_out.false) i then Some UnsignedDelegation
    else (if c.if-branch.false i then Some (NameError c.args.encloser.opted_out)
    else (if c.if-denies_type.true i then Some (WildcardNoData c.args.encloser.opted_out)
    else (if c.args.encloser.opted_out then Some UnsignedDelegation
    else wildcard_answer apex hash rs x)))))

pub returns-then-encloser-clause-ok : goal.returns-then-encloser-clause-ok
returns-then-encloser-clause-ok g c =
    let apex = c.args.self.now.apex in
    let hash = hash_of g.H.Nsec3Hash.digest_of c.args.self.now in
    let rs = c.args.self.now.records in
    let x = c.args.self.now.name in
    let wildcard = c.args.encloser.wildcard in
    let t = c.args.record_type.0 in
    sym
    (with_wildcard apex hash rs x t c.requires.here wildcard c.requires.proved c.requires.wildcard c.in_ok-is_covered.field-0 c.denies_type.result c.args.encloser.opted_out (c.in_ok-is_covered.ensures.ok ∙ covered_by apex hash rs wildcard _ (c.as_ref.ensures.value ∙ c.in_ok-wildcard.ensures.ok)) (c.denies_type.ensures ∙ denied_by apex hash rs wildcard _ (c.as_ref-2.ensures.value ∙ c.in_ok-wildcard.ensures.ok) t) c.requires.opted_out
    ∙ (λ i. if (sym c.is_left_out.ensures ∙ c.if-is_left_out.false) i then Some UnsignedDelegation
    else (if c.if-branch.false i then Some (NameError c.args.encloser.opted_out)
    else (if c.if-denies_type.false i then Some (WildcardNoData c.args.encloser.opted_out)
    else (if c.if-encloser.true i then Some UnsignedDelegation
    else wildcard_answer apex hash rs x)))))

pub returns-clause-ok : goal.returns-clause-ok
returns-clause-ok g c =
    let apex = c.args.self.now.apex in
    let hash = hash_of g.H.Nsec3Hash.digest_of c.args.self.now in
    let rs = c.args.self.now.records in
    let x = c.args.self.now.name in
    let wildcard = c.args.encloser.wildcard in
    let t = c.args.record_type.0 in
    let sum =
    with_wildcard apex hash rs x t c.requires.here wildcard c.requires.proved c.requires.wildcard c.in_ok-is_covered.field-0 c.denies_type.result c.args.encloser.opted_out (c.in_ok-is_covered.ensures.ok ∙ covered_by apex hash rs wildcard _ (c.as_ref.ensures.value ∙ c.in_ok-wildcard.ensures.ok)) (c.denies_type.ensures ∙ denied_by apex hash rs wildcard _ (c.as_ref-2.ensures.value ∙ c.in_ok-wildcard.ensures.ok) t) c.requires.opted_out
    ∙ (λ i. if (sym c.is_left_out.ensures ∙ c.if-is_left_out.false) i then Some UnsignedDelegation
    else (if c.if-branch.false i then Some (NameError c.args.encloser.opted_out)
    else (if c.if-denies_type.false i then Some (WildcardNoData c.args.encloser.opted_out)
    else (if c.if-encloser.false i then Some UnsignedDelegation
    else wildcard_answer apex hash rs x)))) in
    let answer = ap (λ n. option_or (wildcard_answer apex hash rs n) c.args.answer) (c.shorten-2.ensures ∙ ap (drop 1) c.shorten.ensures ∙ base_of_base wildcard) ∙ c.requires.answer in
    IfOk-weaker c.wildcard_answer_above.result _ _ (λ p is. is ∙ answer ∙ sym sum) c.wildcard_answer_above.ensures.ok
