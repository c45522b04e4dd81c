use Rattle.std.proofs.Common.{◌++◌, List, ap}
use Rattle.std.proofs.lemmas.Result.{IfOk-equal}
use Rattle.zone_proto.specs.Sets.{RRset}
use Rattle.zone_lookup.specs.FoundSets.{found_set}
use Rattle.zone_response.specs.Additional.{beside}
use Rattle.zone_response.specs.Sections.{sent_sets}
use Rattle.zone_response.proofs.HostFacts.{beside_sent}
use Rattle.zone_response.proofs.sections.send_beside_sent.Goals as goal

pub returns-in-Records-clause-ok : goal.returns-in-Records-clause-ok
returns-in-Records-clause-ok g c =
    let m = c.args.inner.now.records in
    let last = c.args.last.now in
    IfOk-equal c.send_beside.result (sent_sets c.send_beside.new.list) (sent_sets c.args.list.now ++ beside c.args.asked.origin.now m c.args.asked.signed c.set.result.now) _ c.send_beside.ensures.ok
    (ap (λ (l : List RRset). sent_sets c.args.list.now ++ l) (beside_sent c.args.asked.origin.now m c.args.asked.signed last.part last.ttl (found_set last.set) c.set.result.now c.set.ensures c.in-Records.is))
