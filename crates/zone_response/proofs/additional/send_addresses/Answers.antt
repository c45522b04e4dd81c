use Rattle.std.proofs.Common.{◌≡◌, ◌++◌, [], map, ap, ◌∙◌}
use Rattle.std.specs.Prelude.{option_copied}
use Rattle.std.specs.List.{cons_option}
use Rattle.std.proofs.lemmas.Result.{IfOk-equal}
use Rattle.zone_proto.specs.declared.rr_key.RrKey.{RrKey}
use Rattle.zone_proto.specs.Types.{A, AAAA}
use Rattle.zone_map.specs.Zones.{set_at}
use Rattle.zone_response.specs.Sections.{as_it_is, sent_sets}
use Rattle.zone_response.proofs.additional.send_addresses.Goals as goal

pub returns-clause-ok : goal.returns-clause-ok
returns-clause-ok g c =
    let m = c.args.inner.now.records in
    let first_asked : option_copied c.read_node_sets-here.result.first_asked ≡ set_at m c.args.name.now A = c.read_node_sets-here.ensures.first_asked ∙ ap (λ (k : RrKey). set_at m k.name A) c.in_ok-key.ensures.copy.ok in
    let second_asked : option_copied c.read_node_sets-here.result.second_asked ≡ set_at m c.args.name.now AAAA = c.read_node_sets-here.ensures.second_asked ∙ ap (λ (k : RrKey). set_at m k.name AAAA) c.in_ok-key.ensures.copy.ok in
    IfOk-equal c.send_standing.result (sent_sets c.send_standing.new.list) _ _ c.send_standing.ensures.ok
    (λ i. sent_sets c.args.list.now ++ map (as_it_is c.args.part) (cons_option (first_asked i) (cons_option (second_asked i) [])))
