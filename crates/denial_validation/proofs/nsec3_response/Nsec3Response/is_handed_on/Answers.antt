use Rattle.std.proofs.Common.{sym, ap, ◌∙◌}
use Rattle.denial_validation.specs.Nsec3Proofs.{is_handing_on, is_handed_on}
use Rattle.denial_validation.specs.Nsec3Responses.{hash_of}
use Rattle.denial_validation.proofs.EncloserProofs.{handed_on_by}
use Rattle.denial_validation.proofs.ShownWalk.{referral_ends, referral_found, referral_on, no_referral}
use Rattle.denial_validation.proofs.nsec3_response.Nsec3Response.is_handed_on.Goals as goal

pub returns-then-not-has_referral-clause-ok : goal.returns-then-not-has_referral-clause-ok
returns-then-not-has_referral-clause-ok g c =
    sym
    (no_referral c.args.self.now.apex (hash_of g.H.Nsec3Hash.digest_of c.args.self.now) c.args.self.now.records c.args.self.now.name
    (sym c.has_referral.ensures ∙ c.if-not-has_referral.true))

pub returns-then-is_handing_on-clause-ok : goal.returns-then-is_handing_on-clause-ok
returns-then-is_handing_on-clause-ok g c =
    let apex = c.args.self.now.apex in
    let hash = hash_of g.H.Nsec3Hash.digest_of c.args.self.now in
    let rs = c.args.self.now.records in
    let n = c.loop-rest.rest in
    let rest = c.shorten.new.self in
    let on = sym (c.is_handing_on.ensures ∙ handed_on_by apex hash rs rest _ (c.as_ref.ensures.value ∙ c.in_ok-hashed.ensures.ok)) ∙ c.if-is_handing_on.true in
    sym (referral_found apex hash rs n (sym c.is_below_apex.ensures ∙ c.loop-rest-test.true) (ap (is_handing_on apex hash rs) (sym c.shorten.ensures) ∙ on)) ∙ c.loop-rest.invariant

pub loop-rest-preserved : goal.loop-rest-preserved
loop-rest-preserved g c =
    let apex = c.args.self.now.apex in
    let hash = hash_of g.H.Nsec3Hash.digest_of c.args.self.now in
    let rs = c.args.self.now.records in
    let n = c.loop-rest.rest in
    let rest = c.shorten.new.self in
    let off = sym (c.is_handing_on.ensures ∙ handed_on_by apex hash rs rest _ (c.as_ref.ensures.value ∙ c.in_ok-hashed.ensures.ok)) ∙ c.if-is_handing_on.false in
    ap (is_handed_on apex hash rs) c.shorten.ensures
    ∙ sym (referral_on apex hash rs n (sym c.is_below_apex.ensures ∙ c.loop-rest-test.true) (ap (is_handing_on apex hash rs) (sym c.shorten.ensures) ∙ off)) ∙ c.loop-rest.invariant

pub loop-rest-preserved-else-is_handing_on : goal.loop-rest-preserved-else-is_handing_on
loop-rest-preserved-else-is_handing_on g c =
    let apex = c.args.self.now.apex in
    let hash = hash_of g.H.Nsec3Hash.digest_of c.args.self.now in
    let rs = c.args.self.now.records in
    let n = c.loop-rest.rest in
    let rest = c.shorten.new.self in
    let off = sym (c.is_handing_on.ensures ∙ handed_on_by apex hash rs rest _ (c.as_ref.ensures.value ∙ c.in_ok-hashed.ensures.ok)) ∙ c.if-is_handing_on.false in
    ap (is_handed_on apex hash rs) c.shorten.ensures
    ∙ sym (referral_on apex hash rs n (sym c.is_below_apex.ensures ∙ c.loop-rest-test.true) (ap (is_handing_on apex hash rs) (sym c.shorten.ensures) ∙ off)) ∙ c.loop-rest.invariant

pub returns-clause-ok : goal.returns-clause-ok
returns-clause-ok g c =
    sym (referral_ends c.args.self.now.apex (hash_of g.H.Nsec3Hash.digest_of c.args.self.now) c.args.self.now.records c.loop-rest.rest (sym c.is_below_apex.ensures ∙ c.loop-rest-test.false)) ∙ c.loop-rest.invariant
