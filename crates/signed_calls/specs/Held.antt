-- What the call does, by what its handles hold, by which the zone after an update waits to be committed with its signatures
use Rattle.std.specs.Prelude.{◌≡◌, List, Option, Some, None}
use Rattle.zone_database.specs.declared.database.ZoneDatabase.{ZoneDatabase}
use Rattle.zone_database.specs.declared.zone.Zone.{Zone}
use Rattle.zone_database.specs.Databases.{zones_in}
use Rattle.held_plans.specs.PlanStates.{PlanState}
use Rattle.held_updates.specs.declared.planned.UpdatedZone.{UpdatedZone}
use Rattle.journal_calls.specs.Plans.{Room}
use Rattle.plan_calls.specs.declared.outcome.PlanOutcome.{PlanOutcome}
use Rattle.plan_calls.specs.declared.outcome.PlanOutcome.TheVariants.{Closed, NoPlan}
use Rattle.plan_calls.specs.declared.signing_plan.PlannedZone.{PlannedZone}
use Rattle.plan_calls.specs.declared.signing_plan.PlannedZone.TheVariants as zone
use Rattle.plan_calls.specs.declared.signing_plan.SigningPlan.{SigningPlan}
use Rattle.signed_calls.specs.Signing.{SignsWhole}
use Rattle.signed_calls.specs.Versions.{Leaves, SignsFinished, SignsVersion}

-- a plan is signed by what it is of
abbrev pub SignsZone : PlannedZone → PlanState → List Zone → PlanOutcome → Room → Option UpdatedZone → Option SigningPlan → Type 0
SignsZone zone.Whole p zs outcome r update plan = SignsWhole p zs outcome r update plan
SignsZone (zone.Version v) p zs outcome r update plan = SignsVersion p v zs outcome r update plan
SignsZone (zone.Finished u) p zs outcome r update plan = SignsFinished p u zs outcome r update plan

-- the same of a handle that may hold no zones
abbrev pub SignsZones : SigningPlan → Option ZoneDatabase → PlanOutcome → Room → Option UpdatedZone → Option SigningPlan → Type 0
SignsZones s None outcome r update plan = (outcome ≡ Closed) × Leaves (Some s) r update plan
SignsZones s (Some c) outcome r update plan = SignsZone s.zone s.plan (zones_in c) outcome r update plan

-- the same of one that may hold no plan
abbrev pub SignsHeld : Option SigningPlan → Option ZoneDatabase → PlanOutcome → Room → Option UpdatedZone → Option SigningPlan → Type 0
SignsHeld None zones outcome r update plan = (outcome ≡ NoPlan) × (r.after ≡ r.before) × (plan ≡ None)
SignsHeld (Some s) zones outcome r update plan = SignsZones s zones outcome r update plan
