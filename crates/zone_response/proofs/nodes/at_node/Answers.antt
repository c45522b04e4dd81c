use Rattle.std.proofs.Common.{sym, ap, ◌∙◌}
use Rattle.std.specs.Prelude.{Some, None, option_copied}
use Rattle.zone_response.specs.Nodes.{stand_in_set}
use Rattle.zone_response.proofs.NodeCases.{own_first, alias_first, stand_in_first}
use Rattle.zone_response.proofs.nodes.at_node.Goals as goal

pub returns-in-Some-clause-node : goal.returns-in-Some-clause-node
returns-in-Some-clause-node g c =
    own_first c.args.inner.now.records c.args.key.now.name c.args.record_type.0 c.in-Some.set.now (ap option_copied (sym c.in-Some.is) ∙ c.in_ok-set.ensures.set)

pub returns-in-Some-second_asked-clause-node : goal.returns-in-Some-second_asked-clause-node
returns-in-Some-second_asked-clause-node g c =
    alias_first c.args.inner.now.records c.args.key.now.name c.args.record_type.0 c.in-Some-second_asked.set.now
    (ap option_copied (sym c.in_default.is) ∙ c.in_ok-set.ensures.set) (ap option_copied (sym c.in-Some-second_asked.is) ∙ c.requires.second_asked)

pub returns-in-Some-stand_in_set-clause-node : goal.returns-in-Some-stand_in_set-clause-node
returns-in-Some-stand_in_set-clause-node g c =
    let m = c.args.inner.now.records in
    let t = c.args.record_type.0 in
    stand_in_first m c.args.key.now.name t (Some c.in-Some-stand_in_set.set.now)
    (ap option_copied (sym c.in_default.is) ∙ c.in_ok-set.ensures.set)
    (ap option_copied (sym c.in_default-second_asked.is) ∙ c.requires.second_asked)
    (ap option_copied (sym c.in-Some-stand_in_set.is) ∙ c.stand_in_set.ensures.set ∙ ap (λ x. stand_in_set m x t) c.asked_set.ensures.same)

pub returns-in-None-clause-node : goal.returns-in-None-clause-node
returns-in-None-clause-node g c =
    let m = c.args.inner.now.records in
    let t = c.args.record_type.0 in
    stand_in_first m c.args.key.now.name t None
    (ap option_copied (sym c.in_default.is) ∙ c.in_ok-set.ensures.set)
    (ap option_copied (sym c.in_default-second_asked.is) ∙ c.requires.second_asked)
    (ap option_copied (sym c.in-None.is) ∙ c.stand_in_set.ensures.set ∙ ap (λ x. stand_in_set m x t) c.asked_set.ensures.same)
