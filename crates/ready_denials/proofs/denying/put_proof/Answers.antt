use Rattle.std.proofs.Common.{map, subst}
use Rattle.std.proofs.lemmas.Result.{IfOk-weaker}
use Rattle.zone_denial.specs.NsecDenial.{closest_nsec}
use Rattle.zone_proto.specs.Names.{wildcard_under}
use Rattle.zone_response.specs.Denials.{sent_proof}
use Rattle.zone_response.specs.Queries.{zone_of}
use Rattle.ready_denials.proofs.DenialFacts.{both_ok, kept_by_names, provable_by_hashes, sets_by_hashes, sets_by_names}
use Rattle.ready_denials.specs.Denials.{IsProvedBy, Puts}
use Rattle.ready_denials.proofs.denying.put_proof.Goals as goal

pub returns-in-Names-clause-put : goal.returns-in-Names-clause-put
returns-in-Names-clause-put g c =
    let z = zone_of g.S.Signer.signature_of g.H.Nsec3Hash.digest_of c.args.zone.now in
    let x = c.args.name.now in
    let kept = subst (IsProvedBy z c.args.ttl z.nx_proof_kind) c.in-Names.is c.requires.kept in
    IfOk-weaker c.put_named.result _ _
    (λ put h t.
    subst (λ ss. Puts (map (sent_proof c.args.ttl) ss) c.args.writer.now c.args.out.now.items c.put_named.new.writer c.put_named.new.out.items)
    (sets_by_names z c.args.ttl x c.requires.child c.in-Names.wildcard kept)
    (h t (closest_nsec z.denials (wildcard_under z.origin)) (kept_by_names z c.args.ttl x c.requires.child c.in-Names.wildcard kept)))
    c.put_named.ensures.put

pub returns-in-Hashes-clause-proven : goal.returns-in-Hashes-clause-proven
returns-in-Hashes-clause-proven g c =
    let z = zone_of g.S.Signer.signature_of g.H.Nsec3Hash.digest_of c.args.zone.now in
    let kept = subst (IsProvedBy z c.args.ttl z.nx_proof_kind) c.in-Hashes.is c.requires.kept in
    IfOk-weaker c.put_hashed.result _ _
    (λ put h t. provable_by_hashes z c.args.ttl c.args.name.now c.requires.child c.in-Hashes.proof kept (h t)) c.put_hashed.ensures.hashed

pub returns-in-Hashes-clause-put : goal.returns-in-Hashes-clause-put
returns-in-Hashes-clause-put g c =
    let z = zone_of g.S.Signer.signature_of g.H.Nsec3Hash.digest_of c.args.zone.now in
    let x = c.args.name.now in
    let kept = subst (IsProvedBy z c.args.ttl z.nx_proof_kind) c.in-Hashes.is c.requires.kept in
    IfOk-weaker c.put_hashed.result _ _
    (λ put h t.
    subst (λ ss. Puts (map (sent_proof c.args.ttl) ss) c.args.writer.now c.args.out.now.items c.put_hashed.new.writer c.put_hashed.new.out.items)
    (sets_by_hashes z c.args.ttl x c.requires.child c.in-Hashes.proof kept (h.0 t)) (h.1 t))
    (both_ok c.put_hashed.result _ _ c.put_hashed.ensures.hashed c.put_hashed.ensures.put)
