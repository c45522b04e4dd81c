use Rattle.std.proofs.Common.{sym, subst}
use Rattle.std.specs.Prelude.{map}
use Rattle.std.proofs.lemmas.Option.{IfSome_then}
use Rattle.std.proofs.lemmas.Result.{IfOk-weaker}
use Rattle.message_reading.specs.Queries.{query_of, ReadsQuery}
use Rattle.zone_server.specs.Answers.{IsAnswerFromTo}
use Rattle.zone_database.specs.Databases.{zones_in}
use Rattle.zone_database.specs.Zones.{served_zone}
use Rattle.zone_database.proofs.database.ZoneDatabase.put_ready.Goals as goal

pub returns-in-Ok : goal.returns-in-Ok
returns-in-Ok c =
    let read = subst (λ r. ReadsQuery r (query_of c.args.message.now)) c.in-Ok.is c.requires in
    IfOk-weaker c.put_ready_to.result _ _
    (λ found answer. IfSome_then found answer
    (λ labels h. subst (λ r. IsAnswerFromTo (map served_zone (zones_in c.args.self.now)) c.args.transport r labels c.put_ready_to.new.out.items) (sym read) (h read)))
    c.put_ready_to.ensures
