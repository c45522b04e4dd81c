use Rattle.std.proofs.Common.{List, [], refl, arith, rules}
use Rattle.std.specs.Borrow.{Bor}
use Rattle.zone_response.specs.Sections.{sections}
use Rattle.message_writing.specs.declared.response.Group.{Group}
use Rattle.message_writing.specs.declared.response.Response.{Response}
use Rattle.message_writing.specs.declared.response.ResponseHead.{ResponseHead}
use Rattle.zone_server.proofs.GroupFacts.{begin_fails, put_fails}
use Rattle.zone_server.proofs.SentMessages.{sends_whole}
use Rattle.zone_server.proofs.sending.send_sections.Goals as goal

pub returns : goal.returns
returns c =
    let s = sections c.args.response.now in
    let none : Bor (List Group) = record { ref_ptr = (0, 0); now = [] } in
    let r : Response = record {
      query = c.args.query;
      authoritative = s.authoritative;
      code = c.number_of.result;
      size = 1232;
      answers = none;
      authorities = none;
      glue = none;
      additionals = none;
    } in
    let begun = c.in_ok-writer.ensures.begun r (record { query = refl; authoritative = refl; code = refl; size = refl })
    (record { answers = refl; authorities = refl; glue = refl; additionals = refl }) in
    let put = c.in_ok-put_sections.ensures.put c.args.limit r (record { answers = refl; authorities = refl; glue = refl; additionals = refl }) begun in
    sends_whole c.args.limit c.args.query.now s r put.0 c.finish.new.out.items refl c.number_of.ensures refl refl put.1
    (c.in_ok-finish.ensures c.args.limit put.0 put.2)

pub returns-in_err-writer : goal.returns-in_err-writer
returns-in_err-writer c =
    let s = sections c.args.response.now in
    let head : ResponseHead = record { query = c.args.query; authoritative = s.authoritative; code = c.number_of.result; size = 1232 } in
    let told = begin_fails c.args.limit head s c.in_err-writer.field-0.0 c.number_of.ensures
    (c.in_err-writer.ensures.room (omega (arith, c.requires))) c.in_err-writer.ensures.err in
    search (rules, told)

pub returns-in_err-put_sections : goal.returns-in_err-put_sections
returns-in_err-put_sections c =
    let told = put_fails (sections c.args.response.now) c.in_err-put_sections.field-0.0 c.in_err-put_sections.ensures.err in search (rules, told)
