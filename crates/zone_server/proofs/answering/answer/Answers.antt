use Rattle.zone_server.proofs.AnswerFacts.{answers_octets}
use Rattle.zone_server.proofs.QueryFacts.{read_opcode}
use Rattle.zone_server.proofs.answering.answer.Goals as goal

pub answer_read-requires : goal.answer_read-requires
answer_read-requires g c = read_opcode c.args.message.now c.read_query-read.result c.read_query-read.ensures

pub returns-clause-answer : goal.returns-clause-answer
returns-clause-answer g c =
    answers_octets (g.Z.ServedZones.zones c.args.zones.now) c.args.transport c.args.message.now c.read_query-read.result c.answer_read.result
    c.answer_read.new.out.items c.read_query-read.ensures c.answer_read.ensures.answer
