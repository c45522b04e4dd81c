use Rattle.std.proofs.Common.{sym, ◌∙◌}
use Rattle.denial_validation.specs.Nsec3Responses.{hash_of}
use Rattle.denial_validation.proofs.EncloserProofs.{covered_by, opted_out_by}
use Rattle.denial_validation.proofs.WildcardAnswers.{answers_kept, answers_new}
use Rattle.denial_validation.proofs.nsec3_response.Nsec3Response.answer_with.Goals as goal

pub returns-then-not-branch-clause-ok : goal.returns-then-not-branch-clause-ok
returns-then-not-branch-clause-ok g c =
    let apex = c.args.self.now.apex in
    let hash = hash_of g.H.Nsec3Hash.digest_of c.args.self.now in
    let rs = c.args.self.now.records in
    let n = c.args.name.now in
    answers_kept apex hash rs n c.args.below (sym c.is_below_apex.ensures ∙ c.if-not-is_below_apex.false)
    (sym (c.in_ok-is_covered.ensures.ok ∙ covered_by apex hash rs n _ c.requires) ∙ c.if-not-branch.true)

pub returns-clause-ok : goal.returns-clause-ok
returns-clause-ok g c =
    let apex = c.args.self.now.apex in
    let hash = hash_of g.H.Nsec3Hash.digest_of c.args.self.now in
    let rs = c.args.self.now.records in
    let n = c.args.name.now in
    answers_new apex hash rs n c.num_labels.result c.in_ok-opted_out.opted_out c.args.below (sym c.is_below_apex.ensures ∙ c.if-not-is_below_apex.false)
    (sym (c.in_ok-is_covered.ensures.ok ∙ covered_by apex hash rs n _ c.requires) ∙ c.if-not-branch.false) c.num_labels.ensures.count
    (c.in_ok-opted_out.ensures.ok ∙ opted_out_by apex hash rs n _ c.requires)
