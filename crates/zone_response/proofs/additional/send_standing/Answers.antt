use Rattle.std.proofs.lemmas.Result.{on_ok_weaker}
use Rattle.std.specs.Prelude.{option_copied}
use Rattle.zone_response.specs.Sections.{as_it_is, sent_sets}
use Rattle.zone_response.proofs.SetLists.{both_sent}
use Rattle.zone_response.proofs.additional.send_standing.Goals as goal

pub returns-clause-ok : goal.returns-clause-ok
returns-clause-ok c =
    on_ok_weaker c.send_set-2.result
    (both_sent (as_it_is c.args.part) (sent_sets c.args.list.now) (sent_sets c.send_set.new.list) (sent_sets c.send_set-2.new.list) (option_copied c.args.here.first_asked) (option_copied c.args.here.second_asked)
    c.in_ok-send_set.ensures.ok)
    c.send_set-2.ensures.ok
