use Rattle.std.proofs.lemmas.Result.{IfOk-weaker}
use Rattle.zone_server.proofs.AnswerFacts.{answers_octets_from}
use Rattle.zone_server.proofs.QueryFacts.{read_opcode}
use Rattle.zone_server.proofs.answering.answer_from.Goals as goal

pub answer_read_from-requires : goal.answer_read_from-requires
answer_read_from-requires g c = read_opcode c.args.message.now c.read_query-read.result c.read_query-read.ensures

pub returns-clause-answer : goal.returns-clause-answer
returns-clause-answer g c =
    IfOk-weaker c.answer_read_from.result _ _
    (λ labels h. answers_octets_from (g.Z.ServedZones.zones c.args.zones.now) c.args.transport c.args.message.now c.read_query-read.result labels c.answer_read_from.new.out.items
    c.read_query-read.ensures h)
    c.answer_read_from.ensures.answer
