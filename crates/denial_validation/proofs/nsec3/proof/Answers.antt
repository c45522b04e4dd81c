use Rattle.std.proofs.Common.{None, ◌∙◌}
use Rattle.std.proofs.lemmas.Result.{IfOk-weaker}
use Rattle.denial_validation.specs.Judgement.{nsec3_proof}
use Rattle.denial_validation.specs.Nsec3Responses.{lent_records}
use Rattle.denial_validation.proofs.Nsec3Sums.{judged_is}
use Rattle.denial_validation.proofs.nsec3.proof.Goals as goal

pub returns-in-Some-clause-ok : goal.returns-in-Some-clause-ok
returns-in-Some-clause-ok g c =
    let read = rw c.in-Some.is at c.in_ok-response.ensures.ok in
    IfOk-weaker c.proof.result _ _
    (λ p is. is
    ∙ judged_is g.H.Nsec3Hash.digest_of c.args.apex.now (lent_records c.args.records.now) c.args.name.now c.args.hash.now c.in-Some.response read None (λ apex digest rs x. nsec3_proof apex digest rs x c.args.record_type.0))
    c.proof.ensures.ok
