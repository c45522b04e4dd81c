use Rattle.std.proofs.Common.{sym, ◌∙◌}
use Rattle.std.proofs.lemmas.Result.{IfOk-weaker}
use Rattle.denial_validation.specs.Nsec3Proofs.{is_covered}
use Rattle.denial_validation.specs.Nsec3Responses.{hash_of}
use Rattle.denial_validation.proofs.EncloserProofs.{covered_by, wildcard_rest}
use Rattle.denial_validation.proofs.nsec3_response.Nsec3Response.proves_name_error.Goals as goal

pub returns-in_ok-wildcard-in-Some-clause-ok : goal.returns-in_ok-wildcard-in-Some-clause-ok
returns-in_ok-wildcard-in-Some-clause-ok g c =
    let apex = c.args.self.now.apex in
    let hash = hash_of g.H.Nsec3Hash.digest_of c.args.self.now in
    let rs = c.args.self.now.records in
    let wildcard = c.in-Some.encloser.wildcard in
    let error = wildcard_rest apex hash rs c.args.self.now.name wildcard (rw c.in-Some.is at c.in_ok-encloser.ensures.proved) (rw c.in-Some.is at c.in_ok-encloser.ensures.wildcard) (is_covered apex hash rs) in
    IfOk-weaker c.is_covered.result _ _ (λ b is. is ∙ covered_by apex hash rs wildcard _ (c.as_ref.ensures.value ∙ c.in_ok-wildcard-in-Some.ensures.ok) ∙ sym error) c.is_covered.ensures.ok
