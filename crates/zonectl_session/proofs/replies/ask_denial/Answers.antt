use Rattle.std.proofs.Common.{Some, Option, option_copied, sym, ap, ◌∙◌, subst}
use Rattle.zone_proto.specs.declared.nx_proof_kind.NxProofKind.{NxProofKind}
use Rattle.zonectl_session.specs.Steps.{IsDenialOf}
use Rattle.zonectl_session.proofs.replies.ask_denial.Goals as goal

pub returns-in-Some-Nsec3-clause-answer : goal.returns-in-Some-Nsec3-clause-answer
returns-in-Some-Nsec3-clause-answer c =
    let zone = c.args.zone.now in
    let query = c.denial_query-query in
    let asks = query.ensures in
    subst (λ (k : Option NxProofKind). IsDenialOf zone c.args.key.now k c.nsec3_records.result)
    (sym (ap option_copied c.in-Some-Nsec3.is ∙ ap Some c.in-Some-Nsec3.field-0-is) ∙ c.nx_proof_kind.ensures)
    (query.result, record { name = asks.name; record_type = asks.record_type; wildcard = asks.wildcard; algorithm' = asks.algorithm'; salt' = asks.salt' ∙ c.as_slice.ensures; iterations' = asks.iterations' }, c.nsec3_records.ensures.answer)
