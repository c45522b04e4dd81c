use Rattle.std.proofs.Common.{subst}
use Rattle.std.proofs.lemmas.Result.{on_ok_weaker, IfErr-weaker}
use Rattle.zone_response.specs.Sections.{sent_set}
use Rattle.message_writing.specs.Outcomes.{FailsToPutAny}
use Rattle.message_writing.specs.Responses.{records_of}
use Rattle.zone_server.specs.Answers.{records_sent}
use Rattle.zone_server.proofs.GroupFacts.{puts_one}
use Rattle.zone_server.proofs.groups.put_records.Goals as goal

pub returns-clause-put : goal.returns-clause-put
returns-clause-put c =
    on_ok_weaker c.put.result
    (λ h. puts_one c.args.section c.group_of.result (sent_set c.args.sent.now) c.args.writer.now c.put.new.self c.args.out.now.items c.put.new.out.items
    c.group_of.ensures h) c.put.ensures.put

pub returns-clause-err : goal.returns-clause-err
returns-clause-err c =
    IfErr-weaker c.put.result (FailsToPutAny (records_of c.group_of.result)) (FailsToPutAny (records_sent (sent_set c.args.sent.now)))
    (λ e h. subst (λ rs. FailsToPutAny rs e) c.group_of.ensures h) c.put.ensures.err
