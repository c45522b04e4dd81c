use Rattle.std.proofs.Common.{◌≡◌, ◌∙◌, ap, map, subst}
use Rattle.std.specs.Prelude.{IfSome, Ok, option_copied}
use Rattle.zone_response.specs.Denials.{sent_proof}
use Rattle.zone_response.specs.Queries.{zone_of}
use Rattle.ready_denials.proofs.DenialFacts.{hashed_are}
use Rattle.ready_denials.specs.Denials.{hash_by, Puts}
use Rattle.ready_denials.proofs.denying.put_hashed.Goals as goal

pub returns-clause-put : goal.returns-clause-put
returns-clause-put g c = λ t.
    let z = zone_of g.S.Signer.signature_of g.H.Nsec3Hash.digest_of c.args.zone.now in
    let sets = ap (map (λ s. s.now)) c.as_slice.ensures.value ∙ c.in_ok-sets.ensures.ok
    ∙ hashed_are z (option_copied c.args.zone.now.nx_proof_kind) c.args.name.now c.in-Some.owner c.args.proof.now (option_copied c.in_ok-closer.closer) (option_copied c.as_ref.result)
    (subst (λ o. IfSome o (λ n. hash_by z (option_copied c.args.zone.now.nx_proof_kind) c.args.name.now ≡ Ok n)) c.in-Some.is c.in_ok-owner.ensures) c.in_ok-closer.ensures.ok c.as_ref.ensures.value in
    subst (λ ss. Puts (map (sent_proof c.args.ttl) ss) c.args.writer.now c.args.out.now.items c.put_proofs.new.writer c.put_proofs.new.out.items) sets
    c.in_ok-put_proofs.ensures.put
