use Rattle.std.proofs.Common.{sym, subst, Result}
use Rattle.std.specs.Prelude.{Option}
use Rattle.zone_map.specs.Zones.{Sets}
use Rattle.zone_update.specs.declared.refusal.Refusal.{Refusal}
use Rattle.update_in_place.specs.Parts.{names_about}
use Rattle.update_in_place.specs.Plans.{GivesPlan}
use Rattle.update_in_place.proofs.PermittedPart.{permitted_once_met, permitted_once_unmet}
use Rattle.update_in_place.proofs.permitted.planned_by.Goals as goal

pub returns-in-Ok : goal.returns-in-Ok
returns-in-Ok c =
    let o = c.args.origin.now in
    let rs = c.args.update.changes.items in
    subst (λ (made : Result (Option Sets) Refusal). GivesPlan (names_about o rs) c.args.zone.now made c.planned_alone.result)
    (sym (permitted_once_met c.args.rules.now c.args.key.now o c.args.zone.now c.args.update.prerequisites.items rs _ c.in-Ok.ensures)) c.planned_alone.ensures

pub returns-in-Err : goal.returns-in-Err
returns-in-Err c =
    permitted_once_unmet c.args.rules.now c.args.key.now c.args.origin.now c.args.zone.now c.args.update.prerequisites.items c.args.update.changes.items c.in-Err.refusal c.in-Err.ensures
