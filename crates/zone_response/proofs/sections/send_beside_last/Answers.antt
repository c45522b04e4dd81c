use Rattle.std.proofs.Common.{List, [], ◌++◌, sym, ap, ◌∙◌}
use Rattle.std.specs.Prelude.{Option, option_map, option_copied}
use Rattle.std.specs.Option.{option_map_or}
use Rattle.std.proofs.lemmas.List.{append-nil}
use Rattle.std.proofs.lemmas.Result.{IfOk-equal}
use Rattle.zone_proto.specs.Sets.{RRset}
use Rattle.zone_response.specs.Additional.{beside}
use Rattle.zone_response.specs.Sections.{sent_set, sent_sets}
use Rattle.zone_response.proofs.SetLists.{last_sent}
use Rattle.zone_response.proofs.sections.send_beside_last.Goals as goal

pub returns-in-Some-clause-ok : goal.returns-in-Some-clause-ok
returns-in-Some-clause-ok g c =
    let beside_it : RRset → List RRset = beside c.args.asked.origin.now c.args.inner.now.records c.args.asked.signed in
    IfOk-equal c.send_beside_sent.result (sent_sets c.send_beside_sent.new.list) (sent_sets c.args.list.now ++ beside_it (sent_set c.in-Some.last.now)) _
    c.send_beside_sent.ensures.ok
    (ap (λ (o : Option RRset). sent_sets c.args.list.now ++ option_map_or beside_it o [])
    (sym (last_sent c.args.answers.now ∙ ap (option_map sent_set) (sym c.last.ensures.value ∙ ap option_copied c.in-Some.is))))

pub returns-in-None-clause-ok : goal.returns-in-None-clause-ok
returns-in-None-clause-ok g c =
    let beside_it : RRset → List RRset = beside c.args.asked.origin.now c.args.inner.now.records c.args.asked.signed in
    sym (append-nil (sent_sets c.args.list.now))
    ∙ ap (λ (o : Option RRset). sent_sets c.args.list.now ++ option_map_or beside_it o [])
    (sym (last_sent c.args.answers.now ∙ ap (option_map sent_set) (sym c.last.ensures.value ∙ ap option_copied c.in-None.is)))
