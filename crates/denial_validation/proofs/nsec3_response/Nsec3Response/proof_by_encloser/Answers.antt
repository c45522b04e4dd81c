use Rattle.std.proofs.Common.{Some, None, cond, drop, sym, ap, ◌∙◌}
use Rattle.std.specs.Option.{option_or}
use Rattle.std.proofs.lemmas.Result.{IfOk-weaker}
use Rattle.zone_proto.specs.Names.{base_name}
use Rattle.denial_validation.specs.Nsec3Proofs.{wildcard_answer}
use Rattle.denial_validation.specs.Nsec3Responses.{hash_of}
use Rattle.denial_validation.proofs.EncloserProofs.{proved_is, unopted_is}
use Rattle.denial_validation.proofs.Nsec3Sums.{without_proof}
use Rattle.denial_validation.proofs.ShownWalk.{base_of_base}
use Rattle.denial_validation.proofs.nsec3_response.Nsec3Response.proof_by_encloser.Goals as goal

pub returns-clause-ok : goal.returns-clause-ok
returns-clause-ok g c =
    let apex = c.args.self.now.apex in
    let hash = hash_of g.H.Nsec3Hash.digest_of c.args.self.now in
    let rs = c.args.self.now.records in
    let x = c.args.self.now.name in
    let n = c.args.encloser.next_closer in
    let e = base_name n in
    let falls = sym c.stands.ensures ∙ c.if-stands.false in
    let unproved = proved_is apex hash rs x e n c.requires.unmatched c.requires.shown c.requires.closer c.args.encloser.in_zone c.args.encloser.covered c.requires.in_zone c.requires.covered
    ∙ ap (λ b. cond b (Some e) None) falls in
    let kept = unopted_is apex hash rs x e n c.requires.unmatched c.requires.shown c.requires.closer c.args.encloser.in_zone c.args.encloser.covered c.requires.in_zone c.requires.covered falls in
    let answer = ap (λ a. option_or (wildcard_answer apex hash rs a) c.args.answer) (c.shorten-2.ensures ∙ ap (drop 1) c.shorten.ensures ∙ base_of_base n) ∙ c.requires.answer in
    IfOk-weaker c.wildcard_answer_above.result _ _
    (λ p is. is ∙ answer ∙ sym (without_proof apex hash rs x c.args.record_type.0 c.requires.here c.requires.unmatched unproved kept)) c.wildcard_answer_above.ensures.ok
