use Rattle.std.proofs.Common.{◌≡◌, ◌≤◌, ◌+◌, length, sym, ap, ◌∙◌, subst}
use Rattle.std.specs.Prelude.{Some, None, option_copied}
use Rattle.zone_proto.specs.Names.{Name}
use Rattle.zone_proto.specs.Types.{SOA, DNAME}
use Rattle.zone_map.specs.Zones.{set_at}
use Rattle.zone_response.specs.Paths.{Path, path_of}
use Rattle.zone_response.specs.Queries.{zone_of, inquiry_of}
use Rattle.zone_response.specs.Responses.{path_hashed}
use Rattle.zone_response.specs.Sections.{sections}
use Rattle.zone_response.specs.NodeSets.{StandsAt}
use Rattle.zone_response.proofs.ResponseCases.{without_soa, with_soa}
use Rattle.zone_response.proofs.answering.searched.Goals as goal

pub walk-requires : goal.walk-requires
walk-requires g c = subst (λ (a : Name). StandsAt c.args.zone.now.inner.now.records a SOA DNAME c.in_ok-apex.apex) (sym c.requires) c.in_ok-apex.ensures.ok

pub returns-in_ok-walk-in-Some-clause-response : goal.returns-in_ok-walk-in-Some-clause-response
returns-in_ok-walk-in-Some-clause-response g c =
    let m = c.args.zone.now.inner.now.records in
    let stored : Some c.in-Some.soa.now ≡ set_at m c.args.zone.now.origin.now SOA = ap option_copied (sym c.in-Some.is) ∙ c.in_ok-apex.ensures.ok.first_asked in
    with_soa (zone_of g.S.Signer.signature_of g.H.Nsec3Hash.digest_of c.args.zone.now) (inquiry_of g.S.Signer.signature_of c.args.asked c.args.zone.now.inner.now) c.args.name.now c.along.result c.in-Some.soa.now (path_of c.in_ok-walk-in-Some.field-0) stored c.in_ok-walk-in-Some.ensures.ok c.along.ensures.response

pub returns-in-None-clause-response : goal.returns-in-None-clause-response
returns-in-None-clause-response g c =
    let m = c.args.zone.now.inner.now.records in
    let stored : None ≡ set_at m c.args.zone.now.origin.now SOA = ap option_copied (sym c.in-None.is) ∙ c.in_ok-apex.ensures.ok.first_asked in
    without_soa (zone_of g.S.Signer.signature_of g.H.Nsec3Hash.digest_of c.args.zone.now) (inquiry_of g.S.Signer.signature_of c.args.asked c.args.zone.now.inner.now) c.args.name.now (sections c.bare.result) stored c.bare.ensures

pub returns-in_ok-walk-in-Some-clause-counted : goal.returns-in_ok-walk-in-Some-clause-counted
returns-in_ok-walk-in-Some-clause-counted g c =
    let z = zone_of g.S.Signer.signature_of g.H.Nsec3Hash.digest_of c.args.zone.now in
    subst (λ (p : Path). c.along.new.hashes ≤ c.args.hashes.now + length (path_hashed z c.args.asked.signed p)) c.in_ok-walk-in-Some.ensures.ok c.along.ensures.counted
