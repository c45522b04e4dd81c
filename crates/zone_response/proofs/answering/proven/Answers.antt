use Rattle.std.proofs.Common.{◌≡◌, ◌≤◌, ◌+◌, ◌⊎◌, List, true, false, length, ap, ◌∙◌, subst}
use Rattle.zone_proto.specs.Names.{Name}
use Rattle.lookup_types.specs.declared.lookup_error.LookupError.TheVariants.{Memory}
use Rattle.zone_response.specs.Paths.{path_of}
use Rattle.zone_response.specs.Queries.{zone_of, inquiry_of}
use Rattle.zone_response.specs.Responses.{authority_sets, hashed_for, lacks_proofs}
use Rattle.zone_response.specs.Sections.{sent_sets}
use Rattle.zone_response.specs.Steps.{end_of}
use Rattle.zone_response.proofs.ResponseCases.{proven, unproven}
use Rattle.zone_response.proofs.answering.proven.Goals as goal

pub returns-in-Ok-clause-response : goal.returns-in-Ok-clause-response
returns-in-Ok-clause-response g c =
    let z = zone_of g.S.Signer.signature_of g.H.Nsec3Hash.digest_of c.args.zone.now in
    let p = c.args.path in
    let e = end_of p.end in
    proven z (inquiry_of g.S.Signer.signature_of c.args.asked c.args.zone.now.inner.now) c.args.soa.now (path_of p) c.by_path.result (sent_sets c.in-Ok.authorities)
    (c.in-Ok.ensures.ok ∙ ap (λ made. authority_sets z c.args.asked.signed c.args.soa.now made e) c.as_slice.ensures.value)
    (subst (λ (made : List Name). lacks_proofs z c.args.asked.signed made e ≡ false) c.as_slice.ensures.value c.in-Ok.ensures.provable)
    c.by_path.ensures.response

pub returns-in-Err-clause-response : goal.returns-in-Err-clause-response
returns-in-Err-clause-response g c =
    let z = zone_of g.S.Signer.signature_of g.H.Nsec3Hash.digest_of c.args.zone.now in
    let p = c.args.path in
    let refused = λ (made : List Name). (c.in-Err.error ≡ Memory) ⊎ (lacks_proofs z c.args.asked.signed made (end_of p.end) ≡ true) in
    unproven z (inquiry_of g.S.Signer.signature_of c.args.asked c.args.zone.now.inner.now) c.args.soa.now (path_of p) c.unproven.result c.in-Err.error (subst refused c.as_slice.ensures.value c.in-Err.ensures.err) c.unproven.ensures.response

pub returns-in-Ok-clause-counted : goal.returns-in-Ok-clause-counted
returns-in-Ok-clause-counted g c =
    let z = zone_of g.S.Signer.signature_of g.H.Nsec3Hash.digest_of c.args.zone.now in
    subst (λ (made : List Name). c.authorities.new.hashes ≤ c.args.hashes.now + length (hashed_for z c.args.asked.signed made (end_of c.args.path.end))) c.as_slice.ensures.value c.authorities.ensures.counted

pub returns-in-Err-clause-counted : goal.returns-in-Err-clause-counted
returns-in-Err-clause-counted g c =
    let z = zone_of g.S.Signer.signature_of g.H.Nsec3Hash.digest_of c.args.zone.now in
    subst (λ (made : List Name). c.authorities.new.hashes ≤ c.args.hashes.now + length (hashed_for z c.args.asked.signed made (end_of c.args.path.end))) c.as_slice.ensures.value c.authorities.ensures.counted
