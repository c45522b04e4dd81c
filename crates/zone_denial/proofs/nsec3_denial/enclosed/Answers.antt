use Rattle.std.proofs.Common.{sym, ap, ◌∙◌, ◌∷◌, []}
use Rattle.std.specs.Prelude.{Ok, Some, option_copied, option_to_list}
use Rattle.std.proofs.lemmas.Result.{IfOk-weaker}
use Rattle.zone_proto.specs.Names.{base_name}
use Rattle.zone_denial.specs.Nsec3Lent.{hashed_for, enclosed_sets}
use Rattle.zone_denial.proofs.Hashed.DenialSteps.{enclosed_answers, sets_covering, wildcard_found}
use Rattle.zone_denial.proofs.nsec3_denial.enclosed.Goals as goal

pub returns-clause-ok : goal.returns-clause-ok
returns-clause-ok g c =
    let m = c.args.records.now in
    let hashed = hashed_for c.args.hashing.now.origin.now (g.H.Nsec3Hash.digest_of c.args.hashing.now.hash.now) c.args.hashing.now.query.now in
    let q = c.args.hashing.now.query.now.qname.now in
    let n = c.args.encloser.next_closer in
    let closer_set = option_to_list (option_copied c.in_ok-closer.closer) in
    let wildcard_set = option_to_list (option_copied c.in_ok-wildcard_set.wildcard_set) in
    let closer = sets_covering m hashed n c.args.encloser.closer_owner closer_set c.requires.owner c.in_ok-closer.ensures.ok in
    let wildcard_name = wildcard_found m hashed q n c.requires.closer c.in_ok-wildcard_owner.wildcard_owner wildcard_set c.in_ok-wildcard_owner.ensures.ok c.in_ok-wildcard_set.ensures.ok in
    IfOk-weaker c.in_owner_order-2.result _ _
    (λ sets is.
    ap (λ b. enclosed_sets m hashed b q (Some (base_name n))) c.if-hashing.false
    ∙ enclosed_answers m c.in_ok-closer.ensures.zone hashed q (base_name n) n c.requires.closer closer_set (c.args.encloser.set.now ∷ []) wildcard_set closer c.requires.matched wildcard_name ∙ ap Ok (sym is))
    c.in_owner_order-2.ensures.ok
