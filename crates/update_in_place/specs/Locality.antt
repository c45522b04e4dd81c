-- What an update does to a part of a zone, and what steps between such parts are
use Rattle.std.specs.Prelude.{◌≡◌, ℕ, true, false, List, [], Option, Ok}
use Rattle.zone_proto.specs.Names.{Name}
use Rattle.zone_map.specs.Zones.{Sets, set_at, IsZone}
use Rattle.shown_zones.specs.Steps.{IsStepIfAny}
use Rattle.shown_zones.specs.declared.step.ZoneStep.{ZoneStep}
use Rattle.zone_update.specs.Updates.{updated}
use Rattle.zone_update.specs.declared.entry.Entry.{Entry}
use Rattle.update_policy.specs.declared.rule.Rule.{Rule}
use Rattle.update_permission.specs.Permissions.{is_each_permitted}
use Rattle.update_in_place.specs.Parts.{is_among, names_about, sets_of, AreChanged}

-- The sets of the names that an update is about are after it what it makes of them alone, and each other set stays.
abbrev pub UpdatesAreLocal : Type 0
UpdatesAreLocal = (origin : Name) (m after : Sets) (changes : List Entry) → IsZone m → updated origin m [] changes ≡ Ok after
    → (updated origin (sets_of (names_about origin changes) m) [] changes ≡ Ok (sets_of (names_about origin changes) after))
    × ((n : Name) (t : ℕ) → is_among (names_about origin changes) n ≡ false → set_at after n t ≡ set_at m n t)

-- Where a zone and the next one differ in the sets of some names alone, the origin among them, the step between these sets is the step between
-- the zones.
abbrev pub StepsAreLocal : Type 0
StepsAreLocal = (origin : Name) (names : List Name) (zone next before after : Sets) (step : Option ZoneStep) → IsZone zone → is_among names origin ≡ true
    → AreChanged names zone next before after → IsStepIfAny origin before after step → IsStepIfAny origin zone next step

-- Whether the owner of a key may make changes is told by the sets of the names that they are about.
abbrev pub PermissionsAreLocal : Type 0
PermissionsAreLocal = (rules : List Rule) (key origin : Name) (m : Sets) (changes : List Entry)
    → is_each_permitted rules key origin (sets_of (names_about origin changes) m) changes ≡ is_each_permitted rules key origin m changes
