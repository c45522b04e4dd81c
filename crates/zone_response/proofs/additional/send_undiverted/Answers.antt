use Rattle.std.proofs.Common.{◌≡◌, ◌++◌, [], map, sym, ap, ◌∙◌}
use Rattle.std.specs.Prelude.{None, option_copied}
use Rattle.std.specs.List.{cons_option}
use Rattle.std.proofs.lemmas.Result.{IfOk-equal}
use Rattle.zone_proto.specs.declared.rr_key.RrKey.{RrKey}
use Rattle.zone_proto.specs.Types.{A, NS, AAAA}
use Rattle.zone_map.specs.Zones.{set_at}
use Rattle.zone_response.specs.Additional.{diverted_host}
use Rattle.zone_response.specs.Sections.{as_it_is, sent_sets}
use Rattle.zone_response.proofs.TurnWalk.{own_turn}
use Rattle.zone_response.proofs.additional.send_undiverted.Goals as goal

pub returns-in-None-clause-ok : goal.returns-in-None-clause-ok
returns-in-None-clause-ok g c =
    let m = c.args.inner.now.records in
    let h = c.args.host.now in
    let ns : option_copied c.read_node_sets-here.result.ns ≡ set_at m h NS = c.read_node_sets-here.ensures.ns ∙ ap (λ (k : RrKey). set_at m k.name NS) c.in_ok-key.ensures.copy.ok in
    let first_asked : option_copied c.read_node_sets-here.result.first_asked ≡ set_at m h A = c.read_node_sets-here.ensures.first_asked ∙ ap (λ (k : RrKey). set_at m k.name A) c.in_ok-key.ensures.copy.ok in
    let second_asked : option_copied c.read_node_sets-here.result.second_asked ≡ set_at m h AAAA = c.read_node_sets-here.ensures.second_asked ∙ ap (λ (k : RrKey). set_at m k.name AAAA) c.in_ok-key.ensures.copy.ok in
    let diversion = own_turn c.args.origin.now m h A None c.requires (ap option_copied (sym c.in-None.is) ∙ c.own_cut.ensures m ns) in
    IfOk-equal c.send_standing.result (sent_sets c.send_standing.new.list) _ _ c.send_standing.ensures.ok
    ((λ i. sent_sets c.args.list.now ++ map (as_it_is (c.part_for.ensures i)) (cons_option (first_asked i) (cons_option (second_asked i) [])))
    ∙ ap (λ o. sent_sets c.args.list.now ++ diverted_host m c.args.signed c.args.below h o) diversion)
