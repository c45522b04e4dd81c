use Rattle.std.specs.Prelude.{map}
use Rattle.std.proofs.lemmas.Result.{IfOk-weaker}
use Rattle.zone_server.proofs.AnswerFacts.{answers_octets_from}
use Rattle.zone_server.proofs.QueryFacts.{read_opcode}
use Rattle.zone_database.specs.Databases.{zones_in}
use Rattle.zone_database.specs.Zones.{served_zone}
use Rattle.zone_database.proofs.database.ZoneDatabase.answer_from.Goals as goal

pub answer_read_from-requires : goal.answer_read_from-requires
answer_read_from-requires c = read_opcode c.args.message.now c.read_query-read.result c.read_query-read.ensures
