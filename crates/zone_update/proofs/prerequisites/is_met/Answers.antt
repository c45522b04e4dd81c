use Rattle.std.proofs.Common.{sym, ap, ◌∙◌}
use Rattle.zone_proto.specs.declared.rr_key.RrKey.{RrKey}
use Rattle.zone_proto.specs.Names.{lower}
use Rattle.zone_map.specs.Zones.{set_at}
use Rattle.zone_update.specs.Demands.{has_exactly, is_met}
use Rattle.zone_update.proofs.prerequisites.is_met.Goals as goal

pub returns-in_ok-new-in-SetHas-clause-answer : goal.returns-in_ok-new-in-SetHas-clause-answer
returns-in_ok-new-in-SetHas-clause-answer c =
    let m = c.args.sets.now in
    let ds = c.args.demands.now in
    let r = c.in-SetHas.record in
    c.has_exactly.ensures
    ∙ ap (has_exactly ds r)
    (c.get.ensures.value
    ∙ ap (λ (k : RrKey). set_at m k.name k.record_type.0) c.new-key.ensures.value
    ∙ ap (λ n. set_at m n c.record_type.result.0) c.in_ok-new-in-SetHas.ensures.ok
    ∙ ap (set_at m (lower r.name)) c.record_type.ensures)
    ∙ sym (ap (is_met m ds) c.in-SetHas.is)
