use Rattle.std.proofs.Common.{Some, None, cond, sym, ap, ◌∙◌}
use Rattle.zone_proto.specs.Names.{base_name}
use Rattle.denial_validation.specs.Nsec3Responses.{hash_of}
use Rattle.denial_validation.proofs.EncloserProofs.{proved_is, unopted_is}
use Rattle.denial_validation.proofs.nsec3_response.Nsec3Response.proof_of.Goals as goal

pub returns-else-stands-clause-proved : goal.returns-else-stands-clause-proved
returns-else-stands-clause-proved g c =
    let apex = c.args.self.now.apex in
    let hash = hash_of g.H.Nsec3Hash.digest_of c.args.self.now in
    let rs = c.args.self.now.records in
    let n = c.args.encloser.next_closer in
    sym
    (proved_is apex hash rs c.args.self.now.name (base_name n) n c.requires.unmatched c.requires.shown c.requires.closer c.args.encloser.in_zone c.args.encloser.covered c.requires.in_zone c.requires.covered
    ∙ ap (λ b. cond b (Some (base_name n)) None) (sym c.stands.ensures ∙ c.if-stands.false))

pub returns-else-stands-clause-opted_out : goal.returns-else-stands-clause-opted_out
returns-else-stands-clause-opted_out g c =
    let apex = c.args.self.now.apex in
    let hash = hash_of g.H.Nsec3Hash.digest_of c.args.self.now in
    let rs = c.args.self.now.records in
    let n = c.args.encloser.next_closer in
    sym
    (unopted_is apex hash rs c.args.self.now.name (base_name n) n c.requires.unmatched c.requires.shown c.requires.closer c.args.encloser.in_zone c.args.encloser.covered c.requires.in_zone c.requires.covered
    (sym c.stands.ensures ∙ c.if-stands.false))
