-- Plans of what updates change of zones, each made in the version of the zone that is to take its place
use Rattle.std.specs.Prelude.{◌≡◌, ◌⊎◌, ◌<◌, true, List, length, Option, Some, None}
use Rattle.std.specs.Global.{Box}
use Rattle.zone_lookup.specs.StartOfAuthority.{serial}
use Rattle.zone_database.specs.declared.zone.Zone.{Zone}
use Rattle.held_plans.specs.Holding.{made_plan}
use Rattle.held_plans.specs.PlanStates.{PlanState}
use Rattle.held_updates.specs.declared.planned.UpdatedZone.{UpdatedZone}
use Rattle.journal_calls.specs.Plans.{IsIn, IsOutside, Room}
use Rattle.plan_calls.specs.declared.outcome.PlanOutcome.{PlanOutcome}
use Rattle.plan_calls.specs.declared.outcome.PlanOutcome.TheVariants.{Done, NoRoom}
use Rattle.plan_calls.specs.declared.signing_plan.PlannedZone.TheVariants.{Version, Finished}
use Rattle.plan_calls.specs.declared.signing_plan.SigningPlan.{SigningPlan}
use Rattle.plan_calls.specs.Finishing.{IsUnfinished}
use Rattle.plan_calls.specs.Versions.{IsFinishedVersion, IsGivenUp, IsReady}
use Rattle.signed_versions.specs.Versions.{VersionState}
use Rattle.signed_calls.specs.Signing.{IsSilent}

-- a plan of a version: of the sets that get other signatures, from the zone that is served, of which nothing was handed out
abbrev pub version_plan : VersionState → SigningPlan
version_plan v = record {
  plan = made_plan v.origin (serial v.before.inner.records v.before.origin) v.change.plan.records v.change.plan.keys.items;
  zone = Version v;
}

-- ---- signatures

-- It is held, and what its journal gets is in its room; or that is longer than the room, and the plan keeps the zone.
abbrev pub GivesFinished : PlanState → Box UpdatedZone → PlanOutcome → Room → Option UpdatedZone → Option SigningPlan → Type 0
GivesFinished p u Done r update plan = IsIn u.value.frame.items r × (update ≡ Some u.value) × (plan ≡ None)
GivesFinished p u NoRoom r update plan =
    (length r.before < length u.value.frame.items) × IsOutside u.value.frame.items r × (update ≡ None) × (plan ≡ Some (record { plan = p; zone = Finished u }))
GivesFinished p u outcome r update plan = ⊥

-- nothing comes of a plan: none is held, and this is left of it
abbrev pub Leaves : Option SigningPlan → Room → Option UpdatedZone → Option SigningPlan → Type 0
Leaves left r update plan = IsSilent r × (update ≡ None) × (plan ≡ left)

-- A plan of a version is signed: the zone after the update is held, or waits for room. Or nothing comes of it: the plan stays, or is given up.
pub record SignsVersion (p : PlanState) (v : VersionState) (zs : List Zone) (outcome : PlanOutcome) (r : Room) (update : Option UpdatedZone) (plan : Option SigningPlan) : Type 0 where
  pub ends :
      ((u : Box UpdatedZone) × IsReady p zs × IsFinishedVersion true v p.signatures u.value × GivesFinished p u outcome r update plan)
      ⊎ ((IsUnfinished p zs outcome × Leaves (Some (record { plan = p; zone = Version v })) r update plan)
      ⊎ (IsReady p zs × IsGivenUp v p outcome × Leaves None r update plan))

-- the same of one whose zone waited for room
abbrev pub SignsFinished : PlanState → Box UpdatedZone → List Zone → PlanOutcome → Room → Option UpdatedZone → Option SigningPlan → Type 0
SignsFinished p u zs outcome r update plan =
    (IsReady p zs × GivesFinished p u outcome r update plan)
    ⊎ (IsUnfinished p zs outcome × Leaves (Some (record { plan = p; zone = Finished u })) r update plan)
