use Rattle.std.proofs.Common.{◌∙◌, eqb-true, sym}
use Rattle.zone_proto.specs.Types.{IN}
use Rattle.zone_response.specs.Queries.{zone_of}
use Rattle.ready_denials.proofs.DenialFacts.{is_denied, not_false}
use Rattle.ready_denials.proofs.denying.put_denial.Goals as goal

pub returns-in-Ok : goal.returns-in-Ok
returns-in-Ok g c = λ t.
    let z = zone_of g.S.Signer.signature_of g.H.Nsec3Hash.digest_of c.args.zone.now in
    let q = c.args.query.now in
    let kept = c.requires.kept in
    is_denied z kept.0 c.args.denial.now c.args.name.now kept.1 c.args.limit q c.write_denial.new.out.items c.requires.name (c.in-Ok-true.ensures.missing c.in-Ok-true.field-0-test)
    (eqb-true q.question.query_class.0 IN (not_false _ (sym c.ne.ensures ∙ c.if-ne.false))) (sym c.is_no_data.ensures ∙ c.if-is_no_data.false)
    (c.in-Ok.ensures t kept.0 kept.1)
