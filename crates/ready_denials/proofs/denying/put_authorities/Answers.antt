use Rattle.std.proofs.Common.{[], map, subst, sym}
use Rattle.std.specs.Prelude.{None}
use Rattle.std.proofs.lemmas.Result.{IfOk-weaker}
use Rattle.zone_response.specs.ApexDenials.{missing_child}
use Rattle.zone_response.specs.Denials.{proofs, sent_proof}
use Rattle.zone_response.specs.Queries.{zone_of}
use Rattle.zone_response.specs.Responses.{negative_ttl}
use Rattle.zone_response.specs.declared.response.Part.TheVariants.{Records, Signed}
use Rattle.ready_denials.proofs.DenialFacts.{both_ok, plain_put, signed_put}
use Rattle.ready_denials.specs.Denials.{Puts, PutsDenial}
use Rattle.ready_denials.proofs.denying.put_authorities.Goals as goal

pub returns-then-not-signed-clause-put : goal.returns-then-not-signed-clause-put
returns-then-not-signed-clause-put g c = λ t soa kept.
    let z = zone_of g.S.Signer.signature_of g.H.Nsec3Hash.digest_of c.args.zone.now in
    let new = c.put_kept_set.new.writer in
    subst (λ b. PutsDenial z soa b c.args.name.now c.args.writer.now c.args.out.now.items new c.put_kept_set.new.out.items) (sym c.if-not-signed.true)
    (plain_put z soa c.args.denial.now c.args.name.now kept c.args.writer.now new c.args.out.now.items c.put_kept_set.new.out.items
    (c.in_ok-put_kept_set.ensures.put t Records (negative_ttl soa) soa kept.plain))

pub returns-clause-put : goal.returns-clause-put
returns-clause-put g c =
    let z = zone_of g.S.Signer.signature_of g.H.Nsec3Hash.digest_of c.args.zone.now in
    let x = c.args.name.now in
    let mid = c.put_kept_set-2.new.writer in
    let here = c.put_kept_set-2.new.out.items in
    let new = c.put_proof.new.writer in
    let octets = c.put_proof.new.out.items in
    IfOk-weaker c.put_proof.result _ _
    (λ put h t soa kept.
    subst (λ b. PutsDenial z soa b x c.args.writer.now c.args.out.now.items new octets) (sym c.if-not-signed.false)
    (signed_put z soa c.args.denial.now x kept c.args.writer.now mid new c.args.out.now.items here octets (h.0 t)
    (c.in_ok-put_kept_set-2.ensures.put c.if-not-branch.false Signed (negative_ttl soa) soa kept.signed)
    (subst (λ n. Puts (map (sent_proof n) (proofs z None [] (missing_child x))) mid here new octets) kept.ttl_is (h.1 t))))
    (both_ok c.put_proof.result _ _ c.put_proof.ensures.proven c.put_proof.ensures.put)
