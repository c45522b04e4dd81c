use Rattle.std.proofs.Common.{List, [], refl, subst, true}
use Rattle.std.specs.Borrow.{Bor}
use Rattle.message_writing.specs.declared.response.Group.{Group}
use Rattle.message_writing.specs.declared.response.Response.{Response}
use Rattle.message_writing.specs.declared.response.Section.TheVariants.{Authorities}
use Rattle.message_writing.specs.Writers.{with_groups}
use Rattle.zone_response.specs.ApexDenials.{child_denial}
use Rattle.zone_response.specs.Queries.{zone_of}
use Rattle.zone_server.proofs.SentMessages.{sends_whole}
use Rattle.zone_server.specs.Answers.{asked_of}
use Rattle.ready_denials.specs.Denials.{PutsDenial}
use Rattle.ready_denials.proofs.denying.write_denial.Goals as goal

pub returns : goal.returns
returns g c = λ t soa kept.
    let z = zone_of g.S.Signer.signature_of g.H.Nsec3Hash.digest_of c.args.zone.now in
    let x = c.args.name.now in
    let none : Bor (List Group) = record { ref_ptr = (0, 0); now = [] } in
    let r : Response = record {
      query = c.args.query;
      authoritative = true;
      code = 3;
      size = 1232;
      answers = none;
      authorities = none;
      glue = none;
      additionals = none;
    } in
    let begun = c.in_ok-writer.ensures.begun r (record { query = refl; authoritative = refl; code = refl; size = refl })
    (record { answers = refl; authorities = refl; glue = refl; additionals = refl }) in
    let p = subst (λ b. PutsDenial z soa b x c.in_ok-writer.writer c.begin.new.out.items c.put_authorities.new.writer c.put_authorities.new.out.items)
    c.asks_for_dnssec-signed.ensures (c.in_ok-put_authorities.ensures.put c.if-not-branch.false soa kept) in
    let put = p.put c.args.limit r (refl, refl) begun in
    record {
      proven = p.proven;
      sent = sends_whole c.args.limit c.args.query.now (child_denial z soa (asked_of c.args.query.now).signed x) r (with_groups Authorities put.0 r) c.finish.new.out.items refl refl refl refl
          (record { query = refl; authoritative = refl; code = refl; size = refl; answers = refl; authorities = put.1; glue = refl; additionals = refl })
          (c.in_ok-finish.ensures c.args.limit (with_groups Authorities put.0 r) put.2);
    }
