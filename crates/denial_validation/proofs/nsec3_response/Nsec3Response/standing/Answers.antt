use Rattle.std.proofs.Common.{Some, true, sym, ap, ◌∙◌}
use Rattle.zone_proto.specs.Names.{base_name, wildcard_under}
use Rattle.denial_validation.specs.Nsec3Responses.{hash_of}
use Rattle.denial_validation.proofs.EncloserProofs.{base_of_wildcard, wildcard_of_closer, opted_out_by, proved_is, opted_out_is}
use Rattle.denial_validation.proofs.nsec3_response.Nsec3Response.standing.Goals as goal

pub returns-clause-proved : goal.returns-clause-proved
returns-clause-proved g c =
    let apex = c.args.self.now.apex in
    let hash = hash_of g.H.Nsec3Hash.digest_of c.args.self.now in
    let rs = c.args.self.now.records in
    let n = c.args.encloser.next_closer in
    ap (λ s. Some (base_name s)) c.into_wildcard.ensures ∙ ap Some (base_of_wildcard n)
    ∙ sym (proved_is apex hash rs c.args.self.now.name (base_name n) n c.requires.unmatched c.requires.shown c.requires.closer true true (sym c.requires.in_zone) (sym c.requires.covered))

pub returns-clause-wildcard : goal.returns-clause-wildcard
returns-clause-wildcard g c =
    let n = c.args.encloser.next_closer in
    c.into_wildcard.ensures ∙ wildcard_of_closer c.args.self.now.name (base_name n) n c.requires.closer ∙ ap (λ s. wildcard_under (base_name s)) (sym c.into_wildcard.ensures)

pub returns-clause-opted_out : goal.returns-clause-opted_out
returns-clause-opted_out g c =
    let apex = c.args.self.now.apex in
    let hash = hash_of g.H.Nsec3Hash.digest_of c.args.self.now in
    let rs = c.args.self.now.records in
    let n = c.args.encloser.next_closer in
    sym
    (opted_out_is apex hash rs c.args.self.now.name (base_name n) n c.requires.unmatched c.requires.shown c.requires.closer true c.in_ok-opted_out.opted_out (sym c.requires.in_zone)
    (c.in_ok-opted_out.ensures.ok ∙ opted_out_by apex hash rs n _ (c.as_ref.ensures.value ∙ c.requires.hashed)))
