use Rattle.std.proofs.Common.{◌≡◌, true, List}
use Rattle.std.specs.Prelude.{Option}
use Rattle.shown_zones.specs.Steps.{IsStepIfAny}
use Rattle.shown_zones.specs.declared.step.ZoneStep.{ZoneStep}
use Rattle.zone_map.specs.Zones.{IsZone, Sets}
use Rattle.zone_proto.specs.Names.{Name}
use Rattle.update_in_place.specs.Parts.{is_among, AreChanged}
use Rattle.update_in_place.proofs.Exchanged.{given}
use Rattle.update_in_place.proofs.Steps.{steps_are_local}
use Rattle.update_in_place.proofs.step.step_of.Goals as goal

pub returns-clause-step : goal.returns-clause-step
returns-clause-step c =
    let o = c.args.origin.now in
    let changed = c.args.changed.now in
    given c.step_between.result (IsStepIfAny o changed.before changed.after)
    (λ (step : Option ZoneStep). (names : List Name) (zone next : Sets) → IsZone zone → is_among names o ≡ true
    → AreChanged names zone next changed.before changed.after → IsStepIfAny o zone next step) c.step_between.ensures.step
    (λ step h names zone next is_zone among are_changed. steps_are_local o names zone next changed.before changed.after step is_zone among are_changed h)
