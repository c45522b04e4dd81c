use Rattle.std.proofs.Common.{subst, true}
use Rattle.zone_proto.specs.Types.{IN, NS}
use Rattle.zone_response.specs.Queries.{zone_of, Query}
use Rattle.zone_response.specs.Responses.{IsResponse}
use Rattle.zone_response.specs.Sections.{sections}
use Rattle.ready_referrals.proofs.KeptReferrals.{referral_told}
use Rattle.ready_referrals.proofs.keeping.referral_of.Goals as goal

pub returns-in-Ok : goal.returns-in-Ok
returns-in-Ok g c =
    let e = c.if_referral.ensures in
    let q : Query = record { name = c.args.cut.now; record_type = NS; class = IN; signed = true } in
    referral_told (zone_of g.S.Signer.signature_of g.H.Nsec3Hash.digest_of c.args.zone.now) c.args.cut.now c.if_referral.result c.in-Ok.response
    (subst (λ z. IsResponse (zone_of g.S.Signer.signature_of g.H.Nsec3Hash.digest_of z) q (sections c.in-Ok.response)) c.lent.ensures c.in-Ok.ensures.response)
    e.same e.code e.authority e.answers
