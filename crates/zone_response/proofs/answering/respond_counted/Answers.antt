use Rattle.std.proofs.Common.{◌≤◌, ◌+◌, length, subst, arith}
use Rattle.zone_response.specs.Paths.{path}
use Rattle.zone_response.specs.Responses.{path_hashed}
use Rattle.zone_response.specs.Queries.{zone_of, query_of}
use Rattle.zone_response.specs.Searches.{most_for_path}
use Rattle.zone_response.specs.Sections.{sections}
use Rattle.zone_response.proofs.ResponseCases.{asked, refused, inquired, searched}
use Rattle.zone_response.proofs.answering.respond_counted.Goals as goal

pub returns-in-Some-clause-response : goal.returns-in-Some-clause-response
returns-in-Some-clause-response g c =
    refused (zone_of g.S.Signer.signature_of g.H.Nsec3Hash.digest_of c.args.zone) (query_of c.args.question c.args.options.dnssec_ok) c.in-Some.code (sections c.bare.result) c.in-Some.ensures c.bare.ensures

pub returns-in-None-clause-response : goal.returns-in-None-clause-response
returns-in-None-clause-response g c =
    let z = zone_of g.S.Signer.signature_of g.H.Nsec3Hash.digest_of c.args.zone in
    let q = query_of c.args.question c.args.options.dnssec_ok in
    searched z q c.searched.result c.in-None.ensures (inquired z q c.searched.result c.is_proved.result c.is_proved.ensures c.searched.ensures.response)

pub returns-in-None-clause-counted : goal.returns-in-None-clause-counted
returns-in-None-clause-counted g c =
    let z = zone_of g.S.Signer.signature_of g.H.Nsec3Hash.digest_of c.args.zone in
    let q = query_of c.args.question c.args.options.dnssec_ok in
    subst (λ b. c.searched.new.hashes ≤ c.args.hashes.now + length (path_hashed z q.signed (path (asked z q b) q.name))) c.is_proved.ensures c.searched.ensures.counted

pub returns-in-None-clause-searched : goal.returns-in-None-clause-searched
returns-in-None-clause-searched g c =
    let z = zone_of g.S.Signer.signature_of g.H.Nsec3Hash.digest_of c.args.zone in
    let q = query_of c.args.question c.args.options.dnssec_ok in
    subst (λ b. c.searched.new.searches ≤ c.args.searches.now + (1 + most_for_path (asked z q b) q.name)) c.is_proved.ensures (omega (arith, c.searched.ensures.searched))
