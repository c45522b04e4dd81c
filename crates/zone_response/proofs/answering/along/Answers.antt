use Rattle.std.proofs.Common.{sym, ◌∙◌}
use Rattle.zone_response.specs.Paths.{path_of}
use Rattle.zone_response.specs.Queries.{zone_of, inquiry_of}
use Rattle.zone_response.specs.Sections.{sections}
use Rattle.zone_response.proofs.ResponseCases.{failed, passed}
use Rattle.zone_response.proofs.answering.along.Goals as goal

pub returns-then-fails-clause-response : goal.returns-then-fails-clause-response
returns-then-fails-clause-response g c =
    failed (zone_of g.S.Signer.signature_of g.H.Nsec3Hash.digest_of c.args.zone.now) (inquiry_of g.S.Signer.signature_of c.args.asked c.args.zone.now.inner.now) c.args.soa.now (path_of c.args.path) (sections c.bare.result) (sym c.fails.ensures ∙ c.if-fails.true) c.bare.ensures

pub returns-clause-response : goal.returns-clause-response
returns-clause-response g c =
    passed (zone_of g.S.Signer.signature_of g.H.Nsec3Hash.digest_of c.args.zone.now) (inquiry_of g.S.Signer.signature_of c.args.asked c.args.zone.now.inner.now) c.args.soa.now (path_of c.args.path) c.proven.result (sym c.fails.ensures ∙ c.if-fails.false) c.proven.ensures.response
