use Rattle.std.proofs.Common.{◌≡◌, None, false, sym, ◌∙◌}
use Rattle.denial_validation.specs.Nsec3Proofs.{is_matched, shown_encloser}
use Rattle.denial_validation.specs.Nsec3Responses.{hash_of}
use Rattle.denial_validation.proofs.EncloserProofs.{matched_by}
use Rattle.denial_validation.proofs.Nsec3Sums.{handed_none, without_encloser}
use Rattle.denial_validation.proofs.nsec3_response.Nsec3Response.proof.Goals as goal

pub returns-then-branch-clause-ok : goal.returns-then-branch-clause-ok
returns-then-branch-clause-ok g c =
    sym
    (handed_none c.args.self.now.apex (hash_of g.H.Nsec3Hash.digest_of c.args.self.now) c.args.self.now.records c.args.self.now.name c.args.record_type.0
    (sym c.in_ok-is_handed_on.ensures.ok ∙ c.if-branch.true))

pub returns-in-None-clause-ok : goal.returns-in-None-clause-ok
returns-in-None-clause-ok g c =
    let apex = c.args.self.now.apex in
    let hash = hash_of g.H.Nsec3Hash.digest_of c.args.self.now in
    let rs = c.args.self.now.records in
    let x = c.args.self.now.name in
    let here = sym c.in_ok-is_handed_on.ensures.ok ∙ c.if-branch.false in
    let unmatched : is_matched apex hash rs x ≡ false = sym (c.is_matched.ensures ∙ matched_by apex hash rs x _ c.own.ensures) ∙ c.if-is_matched.false in
    let hidden : shown_encloser apex hash rs x ≡ None = sym (rw c.in-None.is at c.in_ok-shown.ensures.shown) in
    rw c.in-None.is at c.in_ok-shown.ensures.answer ∙ sym (without_encloser apex hash rs x c.args.record_type.0 here unmatched hidden)
