use Rattle.std.proofs.Common.{sym, ap, ◌∙◌}
use Rattle.std.specs.Prelude.{option_and_then, option_copied}
use Rattle.zone_map.specs.Zones.{set_at}
use Rattle.zone_response.specs.Nodes.{if_signed}
use Rattle.zone_response.proofs.nodes.any_set.Goals as goal

pub returns-in-Some-clause-set : goal.returns-in-Some-clause-set
returns-in-Some-clause-set g c =
    c.if_signed.ensures
    ∙ ap (option_and_then (if_signed c.args.record_type.0))
    (ap option_copied (sym c.in-Some.is) ∙ c.get.ensures ∙ ap (set_at c.args.inner.now.records c.args.key.now.name) c.in_ok-key.ensures.chosen)

pub returns-in-None-clause-set : goal.returns-in-None-clause-set
returns-in-None-clause-set g c =
    ap (option_and_then (if_signed c.args.record_type.0))
    (ap option_copied (sym c.in-None.is) ∙ c.get.ensures ∙ ap (set_at c.args.inner.now.records c.args.key.now.name) c.in_ok-key.ensures.chosen)
