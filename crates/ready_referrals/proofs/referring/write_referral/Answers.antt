use Rattle.std.proofs.Common.{List, [], false, refl, subst}
use Rattle.std.specs.Borrow.{Bor}
use Rattle.message_writing.specs.declared.response.Group.{Group}
use Rattle.message_writing.specs.declared.response.Response.{Response}
use Rattle.zone_server.proofs.SentMessages.{sends_whole}
use Rattle.zone_server.specs.Answers.{asked_of}
use Rattle.zone_server.specs.Sending.{PutsSections}
use Rattle.ready_referrals.specs.Referrals.{referral}
use Rattle.ready_referrals.proofs.referring.write_referral.Goals as goal

pub returns : goal.returns
returns c = λ t z soa ns kept.
    let none : Bor (List Group) = record { ref_ptr = (0, 0); now = [] } in
    let r : Response = record {
      query = c.args.query;
      authoritative = false;
      code = 0;
      size = 1232;
      answers = none;
      authorities = none;
      glue = none;
      additionals = none;
    } in
    let begun = c.in_ok-writer.ensures.begun r (record { query = refl; authoritative = refl; code = refl; size = refl })
    (record { answers = refl; authorities = refl; glue = refl; additionals = refl }) in
    let p = subst (λ b. PutsSections (referral z soa b ns) c.in_ok-writer.writer c.begin.new.out.items c.put_sections.new.writer c.put_sections.new.out.items)
    c.asks_for_dnssec-signed.ensures (c.in_ok-put_sections.ensures.put c.if-not-branch.false z soa ns kept) in
    let put = p c.args.limit r (record { answers = refl; authorities = refl; glue = refl; additionals = refl }) begun in
    sends_whole c.args.limit c.args.query.now (referral z soa (asked_of c.args.query.now).signed ns) r put.0 c.finish.new.out.items refl refl refl refl put.1
    (c.in_ok-finish.ensures c.args.limit put.0 put.2)
