use Rattle.std.proofs.lemmas.Option.{IfSome_then}
use Rattle.zone_response.specs.Queries.{zone_of}
use Rattle.zone_response.specs.Sections.{sections}
use Rattle.ready_referrals.proofs.KeptReferrals.{kept_says}
use Rattle.ready_referrals.proofs.KeptSets.{some_is}
use Rattle.ready_referrals.specs.Referrals.{SaysReferral}
use Rattle.ready_referrals.proofs.keeping.ready_referral.Goals as goal

pub returns-in-Ok : goal.returns-in-Ok
returns-in-Ok g c =
    let z = zone_of g.S.Signer.signature_of g.H.Nsec3Hash.digest_of c.args.zone.now in
    let says = some_is c.in_ok-response.field-0 c.in-Some.response (λ r. SaysReferral z c.args.cut.now (sections r)) c.in-Some.is c.in_ok-response.ensures in
    IfSome_then c.in-Ok.referral c.in-Ok.ensures (λ r kept. kept_says z c.args.cut.now (sections c.in-Some.response) r says kept)
