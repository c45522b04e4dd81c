use Rattle.std.proofs.Common.{◌≡◌, sym, subst, Result, Ok}
use Rattle.std.specs.Prelude.{IfErr, IfOk}
use Rattle.zone_map.specs.Zones.{Sets}
use Rattle.zone_update.specs.Entries.{IsRefusal}
use Rattle.zone_update.specs.declared.refusal.Refusal.{Refusal}
use Rattle.update_in_place.specs.Parts.{names_about, AreChanged}
use Rattle.update_in_place.proofs.About.{once_met, once_unmet}
use Rattle.update_in_place.proofs.in_place.planned_update.Goals as goal

pub returns-in-Ok-clause-planned : goal.returns-in-Ok-clause-planned
returns-in-Ok-clause-planned c =
    subst (λ (made : Result Sets Refusal). IfOk c.planned_changes.result (λ changed. (next : Sets)
    × (made ≡ Ok next) × AreChanged (names_about c.args.origin.now c.args.update.changes.items) c.args.zone.now next changed.before changed.after))
    (sym (once_met c.args.origin.now c.args.zone.now c.args.update.prerequisites.items c.args.update.changes.items _ c.in-Ok.ensures)) c.planned_changes.ensures.planned

pub returns-in-Ok-clause-refused : goal.returns-in-Ok-clause-refused
returns-in-Ok-clause-refused c =
    subst (λ (made : Result Sets Refusal). IfErr c.planned_changes.result (λ refusal. IsRefusal refusal made))
    (sym (once_met c.args.origin.now c.args.zone.now c.args.update.prerequisites.items c.args.update.changes.items _ c.in-Ok.ensures)) c.planned_changes.ensures.refused

pub returns-in-Err-clause-refused : goal.returns-in-Err-clause-refused
returns-in-Err-clause-refused c =
    once_unmet c.args.origin.now c.args.zone.now c.args.update.prerequisites.items c.args.update.changes.items c.in-Err.refusal c.in-Err.ensures
